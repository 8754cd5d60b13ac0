-- What is found in a program made by hand.
use Rattle.std.proofs.Common.{◌≡◌, ℕ, ◌<◌, lit<, List, [], ◌∷◌, Option, Some, None, refl, ap, arith}
use Rattle.kilim_program.specs.declared.names.FieldId.{FieldId}
use Rattle.kilim_program.specs.declared.names.MethodId.{MethodId}
use Rattle.kilim_program.specs.BuiltIn.{class_id, field_id, method_id}
use Rattle.kilim_program.specs.Members.{object_fields, execute_of}
use Rattle.kilim_run_machine.specs.Found.{IsFound, by_hand}

-- numbers, to tell lists of fields and methods apart
abbrev first_field : List FieldId → ℕ
first_field [] = 9
first_field (f ∷ fs) = f.0

abbrev method_number : Option MethodId → ℕ
method_number None = 9
method_number (Some m) = m.0

differ : (m n : ℕ) → m < n → (m ≡ n → ⊥) × (n ≡ m → ⊥)
differ m n lt = (λ e. absurd (omega arith), λ e. absurd (omega arith))

turned_fields : object_fields by_hand (class_id 1) ≡ field_id 3 ∷ field_id 1 ∷ [] → ⊥
turned_fields e = (differ 1 3 (lit< tt)).0 (ap first_field e)

other_execute : execute_of by_hand (class_id 4) ≡ Some (method_id 1) → ⊥
other_execute e = (differ 1 8 (lit< tt)).1 (ap method_number e)

pub found : IsFound
found = record {
  fields = (refl, λ e. turned_fields e, refl, refl);
  shape = refl;
  executes = (refl, refl, refl, λ e. other_execute e, refl, refl);
  built_in = (refl, refl, refl, refl, refl, refl, refl);
  behind = (refl, refl, refl, refl);
  receivers = (refl, refl);
  handlers = (refl, refl, refl, refl, refl, refl);
  unwinds = (refl, refl, refl, refl, refl, refl);
  words = (refl, refl, refl, refl, refl, refl, refl, refl);
}
