-- The fields of a new object, one after the other.
use Rattle.std.proofs.lemmas.List.{map-append}
use Rattle.std.proofs.lemmas.List.Elements.{filter-append}
use Rattle.std.proofs.Common.{◌≡◌, cond, arith, subst, ◌∙◌, sym, ap, refl, append_assoc, Bool, true, false, not, List, [], ◌∷◌, ◌++◌, Option, Some, None, filter, map}
use Rattle.kilim_program.specs.declared.names.FieldId.{FieldId}
use Rattle.kilim_program.specs.declared.ty.Ty.{Ty}
use Rattle.kilim_program.specs.declared.value.Value.{Value}
use Rattle.kilim_program.specs.Program.{Program}
use Rattle.kilim_program.specs.Members.{is_instance_field}
use Rattle.kilim_run_state.specs.Objects.{first_field, first_value}
use Rattle.kilim_program.specs.declared.class.Field.{Field}
use Rattle.kilim_program.specs.declared.value.Value.TheVariants.{Null}
use Rattle.kilim_program.specs.Names.{field_of}
use Rattle.kilim_run_interp.specs.instruction.Making.{type_in, instance_type, first_fields}

passed_by : (o : Option Field) → type_in o ≡ None → elim o [ None ↦ false | Some field ↦ not field.is_static ] ≡ false
passed_by None none = refl
passed_by (Some field) none = by field.is_static none
  where
    by : (b : Bool) → cond b None (Some field.ty) ≡ None → not b ≡ false
    by true e = refl
    by false e = absurd (cc)

taken_by : (o : Option Field) (ty : Ty) → type_in o ≡ Some ty → (elim o [ None ↦ false | Some field ↦ not field.is_static ] ≡ true) × (elim o [ None ↦ Null | Some field ↦ first_value field.ty ] ≡ first_value ty)
taken_by None ty some = absurd (cc)
taken_by (Some field) ty some = by field.is_static some
  where
    by : (b : Bool) → cond b None (Some field.ty) ≡ Some ty → (not b ≡ true) × (first_value field.ty ≡ first_value ty)
    by true e = absurd (cc)
    by false e = let same : field.ty ≡ ty = grind (arith, e) in let P : Ty → Type 0 = λ t. first_value field.ty ≡ first_value t in (refl, subst P same refl)

pub field_passed : (p : Program) (f : FieldId) → instance_type p f ≡ None → first_fields p (f ∷ []) ≡ []
field_passed p f none = rw (passed_by (field_of p f) none) refl

pub field_taken : (p : Program) (f : FieldId) (ty : Ty) → instance_type p f ≡ Some ty → first_fields p (f ∷ []) ≡ (f, first_value ty) ∷ []
field_taken p f ty some = let t = taken_by (field_of p f) ty some in rw (t.0, t.1) refl

-- those of two lists, one behind the other
pub fields_joined : (p : Program) (fs gs : List FieldId) → first_fields p (fs ++ gs) ≡ first_fields p fs ++ first_fields p gs
fields_joined p fs gs = ap (λ (t : List FieldId). map (first_field p) t) (filter-append (is_instance_field p) fs gs) ∙ map-append (first_field p) (filter (is_instance_field p) fs) (filter (is_instance_field p) gs)

pub class_taken : (p : Program) (done : List (FieldId × Value)) (fs gs : List FieldId) → (done ++ first_fields p fs) ++ first_fields p gs ≡ done ++ first_fields p (fs ++ gs)
class_taken p done fs gs = append_assoc done (first_fields p fs) (first_fields p gs) ∙ ap (λ (t : List (FieldId × Value)). done ++ t) (sym (fields_joined p fs gs))
