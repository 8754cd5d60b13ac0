-- All that the rows of the shape graphs rest on.
use Rattle.std.proofs.Common.{◌≡◌, ◌⊎◌, inl, inr, ℕ, ◌+◌, Bool, true, false, cond, List, length, Option, Some, None, refl, sym, ap, subst, ◌∙◌}
use Rattle.std.specs.Prelude.{◌||◌, codes, slice_get}
use Rattle.std.specs.Str.{bytes_eq}
use Rattle.kilim_program.specs.declared.class.Field.{Field}
use Rattle.kilim_program.specs.declared.class.Class.{Class}
use Rattle.kilim_program.specs.declared.class.Method.{Method}
use Rattle.kilim_program.specs.declared.names.ClassId.{ClassId}
use Rattle.kilim_program.specs.declared.names.MethodId.{MethodId}
use Rattle.kilim_program.specs.declared.ty.Base.TheVariants as base
use Rattle.kilim_program.specs.declared.ty.Kind.TheVariants as kind
use Rattle.kilim_program.specs.declared.ty.Ty.{Ty}
use Rattle.kilim_program.specs.declared.verified.VType.TheVariants.{Int}
use Rattle.kilim_program.specs.Program.{Program}
use Rattle.kilim_program.specs.BuiltIn.{class_id, class_type, message_field, plain_type}
use Rattle.kilim_program.specs.Fits.{is_named}
use Rattle.kilim_program.specs.Kinds.{class_kind, is_message, kind_of}
use Rattle.kilim_program.specs.Keeps.{Keeps}
use Rattle.kilim_program.specs.Names.{class_at, class_name, field_of, is_task, method_at, ◌>>=◌}
use Rattle.kilim_type_spec.specs.Step.{superclass_at, vtype}
use Rattle.kilim_type_sound.specs.Facts.{IsCharAt, IsEquals, IsLength, TextKind}
use Rattle.kilim_type_laws.proofs.members.ValueClasses.{found_name}
use Rattle.kilim_type_sound.proofs.BuiltInMembers.{named_at}
use Rattle.kilim_type_sound.proofs.Grounds.{facts_hold}
use Rattle.kilim_type_sound.proofs.Messages.{string_named}
use Rattle.kilim_isolation_laws.specs.graph_rows.Holds.{Word, field_sort, field_sort_of, object_sort, sort_by, type_sort}
use Rattle.kilim_isolation_laws.specs.graph_rows.Facts.{ProgramKeeps}
use Rattle.kilim_isolation_laws.proofs.sorts.Choosing.{chooses_well, class_sort, of_object, sizes}
use Rattle.kilim_isolation_laws.proofs.sorts.FieldSorts.{new_fields}
use Rattle.kilim_isolation_laws.proofs.sorts.KindsOfClasses.{kinds_flow}
use Rattle.kilim_isolation_laws.proofs.sorts.Lines.{object_is_private, step_up}
use Rattle.kilim_isolation_laws.proofs.sorts.Sorted.{classes_flow}
use Rattle.kilim_isolation_laws.proofs.sorts.TakeRow.{is_take}
use Rattle.kilim_isolation_laws.proofs.sorts.Thrown.{thrown_is_private}

module _ (p : Program) (keeps : Keeps p) where
  text_result : (named : Method) → TextKind named → (ty : Ty) × (named.result ≡ Some ty) × (vtype ty ≡ Int) × (kind_of p ty ≡ kind.Value)
  text_result named (IsLength a b r) = (plain_type base.Int, r, refl, refl)
  text_result named (IsEquals ty a b r) = (plain_type base.Bool, r, refl, refl)
  text_result named (IsCharAt a b c r) = (plain_type base.Char, r, refl, refl)

  found_up : (o : Option Class) (u : ClassId) → superclass_at o ≡ Some u → (o >>= λ (class : Class). class.superclass) ≡ Some u
  found_up None u e = absurd (cc)
  found_up (Some class) u e = e

  above : (c u : ClassId) → superclass_at (class_at p c) ≡ Some u → (object_sort p (class_type u.0) ≡ object_sort p (class_type c.0)) ⊎
      ((class_kind p u ≡ kind.Private) × ((id : MethodId) (named : Method) → method_at p id ≡ Some named → named.owner.0 ≡ u.0 → named.built_in ≡ true))
  above c u e = elim (step_up p keeps c u (found_up (class_at p c) u e)) [
    | inl k ↦ inl (class_sort p u c k)
    | inr o ↦ inr (object_is_private p keeps u o, λ id named there owner. (of_object p keeps id named there (subst (λ (n : ℕ). is_named p (codes "java/lang/Object") (class_id n) ≡ true) (sym owner) o)).1)
  ]

  -- strings are values
  text_value : (text : ClassId) → bytes_eq (class_name p text) (codes "java/lang/String") ≡ true → kind_of p (class_type text.0) ≡ kind.Value
  text_value text e = ap (λ (z : Bool). cond (z || bytes_eq (class_name p text) (codes "kilim/Mailbox")) kind.Value (cond (is_task p text || is_message p text) kind.Tree kind.Private)) e

  text_sort : (ty : Ty) (text : ClassId) → ty ≡ class_type text.0 → bytes_eq (class_name p text) (codes "java/lang/String") ≡ true → (type_sort p ty ≡ Word) × (kind_of p ty ≡ kind.Value)
  text_sort ty text is e = subst (λ (z : Ty). (type_sort p z ≡ Word) × (kind_of p z ≡ kind.Value)) (sym is) (ap (sort_by p (class_type text.0)) (text_value text e), text_value text e)

  message_sort : field_sort p message_field ≡ Word
  message_sort =
      let there : field_of p message_field ≡ Some (record { name = codes "message"; ty = class_type (length keeps.built_in.own_classes + 1); owner = class_id (length keeps.built_in.own_classes + 7); is_static = false; is_private = true; constant = None }) =
      ap (λ (fs : List Field). slice_get fs 0) keeps.built_in.fields in
      ap (field_sort_of p) there ∙ (text_sort (class_type (length keeps.built_in.own_classes + 1)) (class_id (length keeps.built_in.own_classes + 1)) refl
      (ap (λ (t : List ℕ). bytes_eq t (codes "java/lang/String")) (named_at p keeps p.form refl 1 (codes "java/lang/String") (string_named p.form (length keeps.built_in.own_classes) (length keeps.built_in.own_methods))))).0

  pub program_keeps : ProgramKeeps p
  program_keeps = let facts = facts_hold p keeps in record {
    flow = kinds_flow p (classes_flow p keeps);
    through = facts.order.through;
    choose = chooses_well p keeps;
    sized = sizes p keeps;
    may = new_fields p keeps;
    texts = λ id named there text instance plain. text_result named (facts.texts id named there text instance plain).kind;
    message = message_sort;
    keeps_messages = λ id named there is. let x = facts.keeps_messages id named there is in (x.0.field.ty, x.1, (text_sort x.0.field.ty x.0.text x.0.typed x.0.is_text).0);
    gives_messages = λ id named there is.
        let x = facts.gives_messages id named there is in
        let s = text_sort x.0.field.ty x.0.text x.0.typed x.0.is_text in
        (x.0.field.ty, x.2, s.0, s.1);
    takes = is_take p keeps;
    text = λ c e. found_name p keeps (codes "java/lang/String") c e;
    constants = facts.constants;
    above = above;
    constructors = facts.constructors;
    thrown = thrown_is_private p keeps;
  }
