-- The names of a tree that leaves a heap.
use Rattle.std.specs.Prelude.{◌≡◌, ℕ, List, Some}
use Rattle.kilim_program.specs.Keeps.{Keeps}
use Rattle.kilim_program.specs.Program.{Program}
use Rattle.kilim_run_state.specs.declared.value.Token.{Token}
use Rattle.kilim_run_state.specs.Machine.{Objects}
use Rattle.kilim_run_state.specs.Shapes.{shape_of}
use Rattle.kilim_run_state.specs.Trees.{tree_names, without}
use Rattle.kilim_run_model.specs.Kept.{IsOnce}
use Rattle.kilim_isolation_laws.specs.forest.Heap.{IsForest}
use Rattle.kilim_type_sound.specs.Fits.{Classes, HeapFits}
use Rattle.kilim_isolation_laws.specs.graph_rows.Facts.{IsGivenAway}
use Rattle.kilim_isolation_laws.specs.graph_rows.Holds.{IsOf, Tree, Trees, trees}

-- Where the trees of a heap are a forest, and objects have just the fields of their classes, a tree's names are those of the objects
-- at and below its root, each once; the heap without them is the heap without exactly those objects.
abbrev pub GivenTreesLeave : Type 0
GivenTreesLeave = (p : Program) (of : Classes) (h : Objects) (n : ℕ) (shape : List Token) → Keeps p → HeapFits p of h → IsForest (trees p h) → IsOf p h n (Tree 0 Trees) → shape_of p h n ≡ Some shape →
    IsGivenAway p h (without h (tree_names p h n)) n × IsOnce (tree_names p h n)
