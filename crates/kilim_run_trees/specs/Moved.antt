-- What the calls on trees do.
use Rattle.std.specs.Prelude.{◌≡◌, ℕ, ◌≤◌, ◌<◌, List, [], ◌∷◌, Option, None, length, slice_index_or}
use Rattle.std.specs.List.{AllByRecursion}
use Rattle.std.specs.FinMap.{get, insert, remove, empty}
use Rattle.kilim_program.specs.declared.class.Program.{Program}
use Rattle.kilim_run_state.specs.declared.value.Object.{Object}
use Rattle.kilim_program.specs.declared.value.Value.{Value}
use Rattle.kilim_run_state.specs.Machine.{Objects}
use Rattle.kilim_run_state.specs.Shapes.{shape_of, tree_limit, value_tokens}
use Rattle.kilim_run_state.specs.declared.value.Token.{Token}
use Rattle.kilim_run_state.specs.Places.{AllDiffer}
use Rattle.kilim_run_trees.specs.declared.fault.MoveFault.{MoveFault}
use Rattle.kilim_run_trees.specs.declared.fault.MoveFault.TheVariants.{TooLarge, Memory}
use Rattle.kilim_run_trees.specs.Room.{RoomFor}
use Rattle.kilim_run_trees.specs.Walk.{IsTree, IsPreorder, places, objects, renamed, numbered}

-- the tokens of a value in a heap
abbrev pub heap_tokens : Program → Objects → ℕ → Value → Option (List Token)
heap_tokens p heap depth v = value_tokens p (λ n. get heap n) depth v

-- the room is for the tree at a place
pub record Fits (heap : Objects) (root : ℕ) (room : RoomFor) : Type 0 where
  pub same_root : room.root ≡ root
  pub entries : List (ℕ × Object)
  pub tree : IsTree heap root entries
  pub count : length entries ≡ room.count
  pub small : room.count ≤ tree_limit

-- and no object is met twice
pub record CanLeave (heap : Objects) (root : ℕ) (room : RoomFor) : Type 0 where
  pub same_root : room.root ≡ root
  pub entries : List (ℕ × Object)
  pub tree : IsTree heap root entries
  pub count : length entries ≡ room.count
  pub once : AllDiffer (places entries)
  pub small : room.count ≤ tree_limit

-- there is no tree of so many objects; where a reference leads back, there is none at all
abbrev pub IsTooLarge : Objects → ℕ → Type 0
IsTooLarge heap root = (entries : List (ℕ × Object)) → IsTree heap root entries → tree_limit < length entries

abbrev pub IsFault : Objects → ℕ → MoveFault → Type 0
IsFault heap root TooLarge = IsTooLarge heap root
IsFault heap root Memory = Unit {0}

-- a heap without the objects at some places
abbrev pub without : Objects → List ℕ → Objects
without heap [] = heap
without heap (n ∷ ns) = without (remove heap n) ns

-- a list of objects as a heap
abbrev pub as_heap : List (ℕ × Object) → Objects
as_heap [] = empty
as_heap (e ∷ es) = insert (as_heap es) e.0 e.1

abbrev pub tree_heap : List Object → Objects
tree_heap os = as_heap (numbered 0 os)

abbrev pub at_places : List ℕ → ℕ → ℕ
at_places ns i = slice_index_or ns i 0

abbrev pub renamed_all : (ℕ → ℕ) → List Object → List Object
renamed_all f [] = []
renamed_all f (o ∷ os) = renamed f o ∷ renamed_all f os

-- The heap is without exactly the objects of the tree, the tree is these, in preorder, with places in this list as references, and it
-- has the same shape.
pub record TakenOut (heap : Objects) (root : ℕ) (after : Objects) (tree : List Object) : Type 0 where
  pub entries : List (ℕ × Object)
  pub was : IsTree heap root entries
  pub left : after ≡ without heap (places entries)
  pub preorder : IsPreorder tree
  pub same : renamed_all (at_places (places entries)) tree ≡ objects entries
  pub shape : (p : Program) → shape_of p (tree_heap tree) 0 ≡ shape_of p heap root

-- The objects stand at places that were free, and nothing else changed.
pub record PutIn (heap : Objects) (tree : List Object) (after : Objects) (root : ℕ) : Type 0 where
  pub entries : List (ℕ × Object)
  pub now : IsTree after root entries
  pub free : AllByRecursion (λ n. get heap n ≡ None) (places entries)
  pub once : AllDiffer (places entries)
  pub others : (n : ℕ) → AllByRecursion (λ m. n ≡ m → ⊥) (places entries) → get after n ≡ get heap n
  pub same : renamed_all (at_places (places entries)) tree ≡ objects entries
  pub shape : (p : Program) → shape_of p after root ≡ shape_of p (tree_heap tree) 0

-- what each tree is
pub record IsTreeList (os : List Object) : Type 0 where
  pub preorder : IsPreorder os
  pub small : length os ≤ tree_limit
