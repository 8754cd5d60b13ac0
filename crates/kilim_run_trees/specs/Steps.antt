-- What the steps of the calls on trees do. No clause of a public call cites this.
use Rattle.std.specs.Prelude.{◌≡◌, ℕ, ◌≤◌, ◌<◌, List, [], ◌∷◌, None, length}
use Rattle.std.specs.List.{AllByRecursion}
use Rattle.std.specs.FinMap.{get}
use Rattle.kilim_run_state.specs.declared.value.Object.{Object}
use Rattle.kilim_program.specs.declared.names.FieldId.{FieldId}
use Rattle.kilim_program.specs.declared.value.Value.{Value}
use Rattle.kilim_program.specs.declared.value.Value.TheVariants.{Int, Long, Null, Ref, Text, Box, Fiber}
use Rattle.kilim_run_state.specs.Machine.{Objects}
use Rattle.kilim_run_state.specs.Shapes.{tree_limit}
use Rattle.kilim_run_state.specs.Places.{AllDiffer}
use Rattle.kilim_run_state.specs.Words.{IsThere}
use Rattle.kilim_run_trees.specs.Walk.{refs, Leads, IsTree, IsPreorder, AreIn, places, objects}
use Rattle.kilim_run_trees.specs.Moved.{without, at_places, renamed_all}

-- a tree of so many objects, and no more than there may be
pub record IsSize (heap : Objects) (root : ℕ) (n : ℕ) : Type 0 where
  pub entries : List (ℕ × Object)
  pub tree : IsTree heap root entries
  pub count : length entries ≡ n
  pub small : n ≤ tree_limit

pub record CanCollect (heap : Objects) (root : ℕ) (objects_room stack_room : ℕ) : Type 0 where
  pub entries : List (ℕ × Object)
  pub tree : IsTree heap root entries
  pub once : AllDiffer (places entries)
  pub objects_fit : length entries ≤ objects_room
  pub stack_fits : length entries ≤ stack_room

pub record Collected (heap : Objects) (root : ℕ) (after : Objects) (os : List Object) : Type 0 where
  pub entries : List (ℕ × Object)
  pub tree : IsTree heap root entries
  pub left : after ≡ without heap (places entries)
  pub gathered : os ≡ objects entries

-- a reference for a reference, and else the same
abbrev pub Alike : Value → Value → Type 0
Alike (Int n) w = Int n ≡ w
Alike (Long n) w = Long n ≡ w
Alike Null w = Null ≡ w
Alike (Ref n) w = (m : ℕ) × (Ref m ≡ w)
Alike (Text units) w = Text units ≡ w
Alike (Box box) w = Box box ≡ w
Alike Fiber w = Fiber ≡ w

abbrev pub AlikeField : FieldId × Value → FieldId × Value → Type 0
AlikeField e f = (e.0 ≡ f.0) × Alike e.1 f.1

abbrev pub EachPair : {A : Type 0} → (A → A → Type 0) → List A → List A → Type 0
EachPair R [] [] = Unit {0}
EachPair R (x ∷ xs) (y ∷ ys) = R x y × EachPair R xs ys
EachPair R _ _ = ⊥

abbrev pub AlikeObject : Object → Object → Type 0
AlikeObject o p = (o.class ≡ p.class) × EachPair AlikeField o.fields p.fields × EachPair Alike o.elements p.elements

-- objects in preorder, whatever their places were
pub record CanNumber (os : List Object) : Type 0 where
  pub root : ℕ
  pub entries : List (ℕ × Object)
  pub leads : Leads (root ∷ []) entries []
  pub same : objects entries ≡ os

-- they have places in this list as references now; with the places that they had as references they are as before
pub record Numbered (os tree : List Object) : Type 0 where
  pub preorder : IsPreorder tree
  pub same : (root : ℕ) (entries : List (ℕ × Object)) → Leads (root ∷ []) entries [] → objects entries ≡ os → renamed_all (at_places (places entries)) tree ≡ os

-- at places that were free objects stand now, and nothing else changed
pub record Blanked (heap now : Objects) (ns : List ℕ) : Type 0 where
  pub free : AllByRecursion (λ n. get heap n ≡ None) ns
  pub once : AllDiffer ns
  pub there : AllByRecursion (IsThere now) ns
  pub others : (n : ℕ) → AllByRecursion (λ m. n ≡ m → ⊥) ns → get now n ≡ get heap n

abbrev pub WasFree : Objects → List ℕ → Type 0
WasFree now ns = (heap : Objects) × Blanked heap now ns

-- a tree, and as many places with objects
pub record CanFill (heap : Objects) (ns : List ℕ) (os : List Object) : Type 0 where
  pub as_many : length os ≡ length ns
  pub there : AllByRecursion (IsThere heap) ns
  pub once : AllDiffer ns
  pub within : AllByRecursion (λ o. AllByRecursion (λ n. n < length ns) (refs o)) os

-- they stand there now
pub record Filled (heap : Objects) (ns : List ℕ) (os : List Object) (after : Objects) : Type 0 where
  pub entries : List (ℕ × Object)
  pub at : places entries ≡ ns
  pub same : renamed_all (at_places ns) os ≡ objects entries
  pub are_in : AreIn after entries
  pub others : (n : ℕ) → AllByRecursion (λ m. n ≡ m → ⊥) ns → get after n ≡ get heap n
