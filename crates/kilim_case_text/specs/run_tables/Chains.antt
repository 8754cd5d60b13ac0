-- Trees that are made for a case.
use Rattle.std.specs.Prelude.{◌≡◌, ℕ, List, [], Some, IsSome}
use Rattle.std.specs.List.{AllByRecursion}
use Rattle.std.specs.FinMap.{get}
use Rattle.kilim_program.specs.declared.value.Value.{Value}
use Rattle.kilim_run_state.specs.declared.value.Object.{Object}
use Rattle.kilim_run_state.specs.Machine.{Objects}
use Rattle.kilim_run_state.specs.Places.{AllDiffer}
use Rattle.kilim_run_trees.specs.Walk.{value_refs, refs, Leads, AreIn, IsTree, places}

-- objects below a value, none of which is met twice
pub record IsBelow (heap : Objects) (value : Value) : Type 0 where
  pub entries : List (ℕ × Object)
  pub leads : Leads (value_refs value) entries []
  pub are_in : AreIn heap entries
  pub once : AllDiffer (places entries)

-- a tree in which none is met twice
pub record IsOwn (heap : Objects) (root : ℕ) : Type 0 where
  pub entries : List (ℕ × Object)
  pub tree : IsTree heap root entries
  pub once : AllDiffer (places entries)

-- objects below places, none of which is met twice
pub record AreBelow (heap : Objects) (from : List ℕ) : Type 0 where
  pub entries : List (ℕ × Object)
  pub leads : Leads from entries []
  pub are_in : AreIn heap entries
  pub once : AllDiffer (places entries)

-- each object that is referred to is there
abbrev pub IsFull : Objects → Type 0
IsFull heap = (n : ℕ) (o : Object) → get heap n ≡ Some o → AllByRecursion (λ m. IsSome (get heap m)) (refs o)

-- and so is one object
pub record IsFullAt (heap : Objects) (root : ℕ) : Type 0 where
  pub full : IsFull heap
  pub there : IsSome (get heap root)
