-- What an object has in a field of its class, and who has a field.
use Rattle.std.proofs.Common.{◌≡◌, ℕ, zero, suc, Bool, true, false, true≢false, cond, eqb, List, [], ◌∷◌, Option, Some, None, refl, sym, ap, subst, ◌∙◌}
use Rattle.std.specs.Prelude.{◌||◌, slice_get, codes}
use Rattle.std.specs.FinMap.{get}
use Rattle.std.specs.List.{list_any}
use Rattle.std.proofs.lemmas.Bool.{eqb-true}
use Rattle.kilim_program.specs.declared.class.Field.{Field}
use Rattle.kilim_program.specs.declared.class.Method.{Method}
use Rattle.kilim_program.specs.declared.names.ClassId.{ClassId}
use Rattle.kilim_program.specs.declared.names.FieldId.{FieldId}
use Rattle.kilim_program.specs.declared.ty.Base.{Base}
use Rattle.kilim_program.specs.declared.ty.Base.TheVariants as base
use Rattle.kilim_program.specs.declared.ty.Ty.{Ty}
use Rattle.kilim_program.specs.declared.value.Value.{Value}
use Rattle.kilim_program.specs.declared.value.Value.TheVariants as value
use Rattle.kilim_program.specs.declared.verified.VType.TheVariants.{Object}
use Rattle.kilim_program.specs.Program.{Program}
use Rattle.kilim_program.specs.BuiltIn.{class_type}
use Rattle.kilim_program.specs.Members.{named_class, named_type, object_fields}
use Rattle.kilim_program.specs.Names.{class_named, field_of}
use Rattle.kilim_run_state.specs.declared.value.Object.{Object as HeapObject}
use Rattle.kilim_run_state.specs.Machine.{Objects}
use Rattle.kilim_run_state.specs.Shapes.{field_in}
use Rattle.kilim_run_machine.specs.Effect.{Effect, Raises, as_object, with_some}
use Rattle.kilim_run_machine.specs.Does.{with_field}
use Rattle.kilim_type_laws.specs.members.Chosen.{is_value_name}
use Rattle.kilim_type_sound.specs.Facts.{Facts, OwnsField}
use Rattle.kilim_type_sound.specs.Fits.{Classes, ContentFits, FieldFits, FieldsFit, HeapFits, IsThere, has_type, is_of, is_value_of}

field_there : (p : Program) (of : Classes) (x : FieldId) (field : Field) → field_of p x ≡ Some field → (fs : List FieldId) (es : List (FieldId × Value)) → FieldsFit p of fs es → list_any (λ (y : FieldId). eqb y.0 x.0) fs ≡ true →
    (v : Value) × (field_in es x ≡ Some v) × (is_value_of p of field.ty v ≡ true)
field_there p of x field e [] es f a = absurd (cc)
field_there p of x field e (y ∷ fs) [] f a = absurd f
field_there p of x field e (y ∷ fs) (d ∷ es) f a = by (eqb y.0 x.0) refl a (field_there p of x field e fs es f.2)
  where
    by : (z : Bool) → eqb y.0 x.0 ≡ z → (z || list_any (λ (y : FieldId). eqb y.0 x.0) fs) ≡ true → (list_any (λ (y : FieldId). eqb y.0 x.0) fs ≡ true → (v : Value) × (field_in es x ≡ Some v) × (is_value_of p of field.ty v ≡ true)) →
        (v : Value) × (field_in (d ∷ es) x ≡ Some v) × (is_value_of p of field.ty v ≡ true)
    by true z a again = (
      d.1,
      subst (λ (q : FieldId). cond (eqb q.0 x.0) (Some d.1) (field_in es x) ≡ Some d.1) (sym f.0) (ap (λ (b : Bool). cond b (Some d.1) (field_in es x)) z),
      subst (λ (o : Option Field). FieldFits p of o d.1) (ap (λ (n : ℕ). slice_get p.fields n) (eqb-true y.0 x.0 z) ∙ e) f.1,
    )
    by false z a again =
        let r = again a in
        (r.0, subst (λ (q : FieldId). cond (eqb q.0 x.0) (Some d.1) (field_in es x) ≡ Some r.0) (sym f.0) (ap (λ (b : Bool). cond b (Some d.1) (field_in es x)) z ∙ r.1), r.2)

field_kept : (p : Program) (of : Classes) (x : FieldId) (field : Field) → field_of p x ≡ Some field → (v : Value) → is_value_of p of field.ty v ≡ true → (fs : List FieldId) (es : List (FieldId × Value)) → FieldsFit p of fs es → FieldsFit p of fs (with_field es x v)
field_kept p of x field e v t [] [] f = tt
field_kept p of x field e v t [] (d ∷ es) f = absurd f
field_kept p of x field e v t (y ∷ fs) [] f = absurd f
field_kept p of x field e v t (y ∷ fs) (d ∷ es) f = by (eqb d.0.0 x.0) refl (field_kept p of x field e v t fs es f.2)
  where
    by : (z : Bool) → eqb d.0.0 x.0 ≡ z → FieldsFit p of fs (with_field es x v) → FieldsFit p of (y ∷ fs) (cond z ((d.0, v) ∷ es) (d ∷ with_field es x v))
    by true z again = (f.0, subst (λ (o : Option Field). FieldFits p of o v) (sym (ap (λ (n : ℕ). slice_get p.fields n) (sym (ap (λ (q : FieldId). q.0) f.0) ∙ eqb-true d.0.0 x.0 z) ∙ e)) t, f.2)
    by false z again = (f.0, f.1, again)

module _ (p : Program) (of : Classes) where
  pub content_there : (x : FieldId) (field : Field) → field_of p x ≡ Some field → (d : ℕ) (b : Base) (o : HeapObject) → ContentFits p of d b o → OwnsField p d b x → (v : Value) × (field_in o.fields x ≡ Some v) × (is_value_of p of field.ty v ≡ true)
  content_there x field e zero (base.Class c) o k w = field_there p of x field e (object_fields p c) o.fields k.1 w
  content_there x field e (suc d) b o k w = absurd w
  content_there x field e zero b o k w = absurd w

  pub content_kept : (x : FieldId) (field : Field) → field_of p x ≡ Some field → (v : Value) → is_value_of p of field.ty v ≡ true → (d : ℕ) (b : Base) (o : HeapObject) → ContentFits p of d b o → OwnsField p d b x → ContentFits p of d b (record o { fields = with_field o.fields x v })
  content_kept x field e v t zero (base.Class c) o k w = (k.0, field_kept p of x field e v t (object_fields p c) o.fields k.1, k.2)
  content_kept x field e v t (suc d) b o k w = absurd w
  content_kept x field e v t zero b o k w = absurd w

module _ (p : Program) (facts : Facts p) (m : Method) (of : Classes) (h : Objects) (heap : HeapFits p of h) where
  -- the object of a field: null, or one that has it
  no_value : (x : FieldId) (field : Field) → field_of p x ≡ Some field → field.is_static ≡ false → (name : List ℕ) → is_value_name name ≡ true → is_of p (named_type p name) (class_type field.owner.0) ≡ true → ⊥
  no_value x field e s name n k = by (class_named p name) refl k
    where
      by : (o : Option ClassId) → class_named p name ≡ o → is_of p (named_class o) (class_type field.owner.0) ≡ true → ⊥
      by None q k = absurd (true≢false (sym k))
      by (Some c) q k = absurd (let a = facts.fields x field e s 0 (base.Class c) k in let b = subst (λ (fs : List FieldId). list_any (λ (y : FieldId). eqb y.0 x.0) fs ≡ true) (facts.no_fields name c n q) a in true≢false (sym b))

  pub holder_is : (S : Effect → Type 0) → ((c : _) → S (Raises c)) → (x : FieldId) (field : Field) → field_of p x ≡ Some field → field.is_static ≡ false → (v : Value) → has_type p m of (Object (class_type field.owner.0)) v ≡ true → IsThere h v → (go : ℕ → HeapObject → Effect) →
      ((n : ℕ) (o : HeapObject) → get h n ≡ Some o → OwnsField p o.class.dims o.class.base x → S (go n o)) → S (as_object v h go)
  holder_is S ended x field e s (value.Int n) k t go c = absurd (cc)
  holder_is S ended x field e s (value.Long n) k t go c = absurd (cc)
  holder_is S ended x field e s value.Null k t go c = ended _
  holder_is S ended x field e s (value.Ref n) k t go c = subst (λ (z : Option HeapObject). S (with_some z (go n))) (sym t.1)
      (c n t.0 t.1 (facts.fields x field e s t.0.class.dims t.0.class.base (subst (λ (o : Option Ty). is_of p o (class_type field.owner.0) ≡ true) (heap.classes n t.0 t.1) k)))
  holder_is S ended x field e s (value.Text u) k t go c = absurd (no_value x field e s (codes "java/lang/String") refl k)
  holder_is S ended x field e s (value.Box u) k t go c = absurd (no_value x field e s (codes "kilim/Mailbox") refl k)
  holder_is S ended x field e s value.Fiber k t go c = absurd (no_value x field e s (codes "kilim/Fiber") refl k)
