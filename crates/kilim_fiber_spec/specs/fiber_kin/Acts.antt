-- A tree that is given away, and one on its way.
use Rattle.std.specs.Prelude.{◌≡◌, ◌≤◌, ℕ, true, List, Some, None, length}
use Rattle.std.specs.List.{AllByRecursion}
use Rattle.kilim_program.specs.Program.{Program}
use Rattle.kilim_run_state.specs.declared.value.Object.{Object}
use Rattle.kilim_run_state.specs.declared.value.Token.{Token}
use Rattle.kilim_run_state.specs.Machine.{Objects}
use Rattle.kilim_run_state.specs.Shapes.{tree_limit, shape_of}
use Rattle.kilim_run_state.specs.Trees.{Root, is_allowed}
use Rattle.kilim_run_model.specs.Lone.{Lone}
use Rattle.kilim_run_model.specs.Kept.{IsFormed}
use Rattle.kilim_run_model.specs.kin.Kin.{Names}
use Rattle.kilim_run_model.specs.kin.trees.TreeKin.{IsWholeTree}
use Rattle.kilim_run_state.specs.Places.{AllDiffer}
use Rattle.kilim_run_trees.specs.Walk.{IsTree, AllThere, places}
use Rattle.kilim_run_trees.specs.Moved.{IsTooLarge, tree_heap}
use Rattle.kilim_run_trees.specs.Shaping.{Suits}
use Rattle.kilim_fiber_spec.specs.fiber_kin.Held.{IsLike}

-- Right before a tree is given away: at `n` in the thread's heap, at `m` in the fiber's.
pub record Giving (p : Program) (root : Root) (n m : ℕ) (shape : List Token) (after f : Lone) : Type 0 where
  pub of : Names
  pub is : IsLike of after f
  pub named : of n ≡ Some m
  pub whole : IsWholeTree p root after.heap n
  pub has : shape_of p after.heap n ≡ Some shape

-- ---- an object that is given away, in the fiber's heap, before it is known how large its tree is

pub record IsGiven (p : Program) (root : Root) (heap : Objects) (m : ℕ) : Type 0 where
  pub there : AllThere heap m
  pub formed : (entries : List (ℕ × Object)) → IsTree heap m entries → AllByRecursion (λ e. IsFormed p e.1) entries
  -- it is too large where it has no shape
  pub large : IsTooLarge heap m → shape_of p heap m ≡ None
  pub once : (entries : List (ℕ × Object)) → IsTree heap m entries → length entries ≤ tree_limit → AllDiffer (places entries)
  -- where it has one, it isn't
  pub small : (entries : List (ℕ × Object)) → IsTree heap m entries → (shape : List Token) → shape_of p heap m ≡ Some shape → length entries ≤ tree_limit
  -- each object has just the fields of its class, in order, and no fiber
  pub suits : (entries : List (ℕ × Object)) → IsTree heap m entries → AllByRecursion (λ e. Suits p e.1) entries
  pub allowed : (shape : List Token) → shape_of p heap m ≡ Some shape → is_allowed p root shape ≡ true

-- ---- a tree on its own, on its way

-- It has that shape, which the declared types allow, and each of its objects is as its class declares.
pub record IsSound (p : Program) (root : Root) (tree : List Object) (shape : List Token) : Type 0 where
  pub has : shape_of p (tree_heap tree) 0 ≡ Some shape
  pub allowed : is_allowed p root shape ≡ true
  pub formed : AllByRecursion (IsFormed p) tree
  pub suits : AllByRecursion (Suits p) tree
