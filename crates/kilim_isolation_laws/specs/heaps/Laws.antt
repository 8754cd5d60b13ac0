-- A tree that comes into a heap.
use Rattle.std.specs.Prelude.{◌≡◌, ◌≤◌, ℕ, List, Some, None}
use Rattle.std.specs.FinMap.{get}
use Rattle.kilim_program.specs.Program.{Program}
use Rattle.kilim_run_state.specs.declared.value.Object.{Object}
use Rattle.kilim_run_state.specs.declared.value.Token.{Token}
use Rattle.kilim_run_state.specs.Machine.{Objects}
use Rattle.kilim_run_state.specs.Trees.{Root, built, with_objects}
use Rattle.kilim_isolation_laws.specs.forest.Heap.{IsForest}
use Rattle.kilim_isolation_laws.specs.graph_rows.Facts.{IsTaken, ProgramKeeps}
use Rattle.kilim_isolation_laws.specs.graph_rows.Holds.{Trees, trees}

-- What is built of a shape that the declared types allow, under new names, is a tree beside those that are there: its root is a tree
-- object, nothing holds it, and each other object of it is held once, by an object of it.
abbrev pub TakenTreesCome : Type 0
TakenTreesCome = (p : Program) → ProgramKeeps p → (h : Objects) (next : ℕ) (root : Root) (shape : List Token) (objects : List Object) → ((x : ℕ) → next ≤ x → get h x ≡ None) → IsForest (trees p h) → built p root next shape ≡ Some objects →
    IsTaken p h (with_objects h next objects) next 0 Trees
