-- An arena as a map: what stands at the places of a list, counted from a number.
use Rattle.std.specs.Prelude.{◌≡◌, ℕ, suc, ◌+◌, ◌≤◌, ◌<◌, List, [], ◌∷◌, Option, Some, None, length, slice_index_or, slice_set}
use Rattle.std.specs.FinMap.{empty, insert}
use Rattle.std.specs.List.{AllByRecursion}
use Rattle.kilim_run_state.specs.declared.value.Object.{Object}
use Rattle.kilim_program.specs.declared.names.FieldId.{FieldId}
use Rattle.kilim_program.specs.declared.value.Value.{Value}
use Rattle.kilim_run_state.specs.Machine.{Objects}
use Rattle.kilim_run_state.specs.Shapes.{field_in}
use Rattle.kilim_run_state.specs.Words.{with_field_in}

unfoldable pub objects_from : ℕ → List (Option Object) → Objects
objects_from n [] = empty
objects_from n (None ∷ ps) = objects_from (suc n) ps
objects_from n (Some o ∷ ps) = insert (objects_from (suc n) ps) n o

abbrev pub IsFreeAt : List (Option Object) → ℕ → Type 0
IsFreeAt places q = (q < length places) × (slice_index_or places q None ≡ None)

abbrev pub AllDiffer : List ℕ → Type 0
AllDiffer [] = Unit {0}
AllDiffer (x ∷ xs) = AllByRecursion (λ y. x ≡ y → ⊥) xs × AllDiffer xs

-- how many places are taken
abbrev pub taken : List (Option Object) → ℕ
taken [] = 0
taken (None ∷ ps) = taken ps
taken (Some o ∷ ps) = suc (taken ps)

-- The free places hold no object, each is listed once, and no other is free. The list has room for all places.
pub record IsArena (places : List (Option Object)) (free : List ℕ) (room : ℕ) : Type 0 where
  pub room_for_all : length places ≤ room
  pub counted : length free + taken places ≡ length places
  pub empty_places : AllByRecursion (IsFreeAt places) free
  pub different : AllDiffer free

-- the first field of that name stands there
pub record IsPlaceOf (fields : List (FieldId × Value)) (f : FieldId) (n : ℕ) : Type 0 where
  pub within : n < length fields
  pub found : (d : FieldId × Value) → field_in fields f ≡ Some (slice_index_or fields n d).1
  pub put : (v : Value) (d : FieldId × Value) → with_field_in fields f v ≡ slice_set fields n ((slice_index_or fields n d).0, v)
