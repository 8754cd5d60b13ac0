-- Fields fit.
use Rattle.std.proofs.Common.{◌≡◌, inl, inr, ℕ, zero, suc, ℤ, Bool, true, false, cond, eqb, List, [], ◌∷◌, Option, Some, None, Ok, refl, sym, subst, arith}
use Rattle.std.specs.Prelude.{◌&&◌, not, codes}
use Rattle.std.specs.FinMap.{insert}
use Rattle.std.proofs.lemmas.Bool.{and_parts, and_from, eqb-true, ne_eqb}
use Rattle.kilim_program.specs.declared.class.Field.{Field}
use Rattle.kilim_program.specs.declared.class.Method.{Method}
use Rattle.kilim_program.specs.declared.instr.Instr.{Instr}
use Rattle.kilim_program.specs.declared.instr.Instr.TheVariants as instr
use Rattle.kilim_program.specs.declared.names.FieldId.{FieldId}
use Rattle.kilim_program.specs.declared.ty.Base.{Base}
use Rattle.kilim_program.specs.declared.ty.Base.TheVariants as base
use Rattle.kilim_program.specs.declared.ty.Ty.{Ty}
use Rattle.kilim_program.specs.declared.value.Value.{Value}
use Rattle.kilim_program.specs.declared.value.Value.TheVariants as value
use Rattle.kilim_program.specs.declared.verified.VType.{VType}
use Rattle.kilim_program.specs.declared.verified.VType.TheVariants.{Int, Long, UninitThis, Object}
use Rattle.kilim_program.specs.Program.{Program}
use Rattle.kilim_run_state.specs.Machine.{Objects}
use Rattle.kilim_program.specs.BuiltIn.{class_type}
use Rattle.kilim_program.specs.Keeps.{constant_fits, is_int_like, is_long as is_long_ty, is_string_base}
use Rattle.kilim_program.specs.Names.{field_of}
use Rattle.kilim_program.specs.Same.{is_constructor}
use Rattle.kilim_run_machine.specs.Effect.{Effect, Goes, with_some, on_value, on_object, as_object, on_constant}
use Rattle.kilim_program.specs.Members.{named_type}
use Rattle.kilim_run_machine.specs.Does.{with_field, narrowed_to, narrowed_int}
use Rattle.kilim_run_state.specs.Shapes.{field_in}
use Rattle.kilim_type_spec.specs.Step.{Types, Is, Own, needs, by_row, field_row, holder, missing, may_name, vtype, dims_vtype, class_vtype}
use Rattle.kilim_type_spec.specs.Typed.{writes, edges, Among}
use Rattle.kilim_type_sound.specs.Fits.{Classes, is_of, has_type, have_types, int_fits, HeapFits, is_value_of}
use Rattle.kilim_program.specs.Lengths.{is_reference_type}
use Rattle.kilim_type_sound.specs.Sound.{EffectFits}
use Rattle.kilim_type_sound.specs.Facts.{Facts, Narrows}
use Rattle.kilim_type_sound.proofs.Basics.{takes_inverse, PlainOperand, Held}
use Rattle.kilim_type_sound.proofs.Words.{value_took}
use Rattle.kilim_type_sound.proofs.Values.{value_typed}
use Rattle.kilim_type_sound.proofs.Calls.{vtype_no_top, held_has}
use Rattle.kilim_type_sound.proofs.Heap.{value_of_typed, writing}
use Rattle.kilim_type_sound.proofs.Holders.{content_kept, content_there, holder_is}
use Rattle.kilim_type_sound.proofs.Rows.{Before, by_takes, going}

module _ (p : Program) (facts : Facts p) (narrows : Narrows) (m : Method) (of : Classes) (h : Objects) (heap : HeapFits p of h) (live : ℕ → ℕ → Bool) (at next : ℕ) (f g : Types) (ls vs : List Value) where
  abbrev After : Instr → Effect → Type 0
  After i e = EffectFits p m of live next ls h (edges i next) g e

  abbrev At : Instr → List VType → Effect → Type 0
  At i s e = EffectFits p m of live next ls h (edges i next) (record f { stack = s }) e

  pub missing_is : by_row p m at missing f ≡ Ok g → ⊥
  missing_is r = let z = (takes_inverse p m at [] [] (needs 8 false ∷ []) f g r).also_hold.0 in absurd (cc)

  is_not : (b : Bool) → not b ≡ true → b ≡ false
  is_not true e = absurd (cc)
  is_not false e = refl

  module _ (i : Instr) (b : Before p m of h live at next f ls vs i) (w : (k : ℕ) → writes i k ≡ false) (on : Among (edges i next) next) (x : FieldId) where
    pub getfield_row : (o : Option Field) → field_of p x ≡ o → by_row p m at (field_row (instr.Getfield x) m o) f ≡ Ok g → After i (on_object vs h (λ n q rest. with_some (field_in q.fields x) (λ v. Goes next ls (v ∷ rest) h)))
    getfield_row None e r = absurd (missing_is r)
    getfield_row (Some field) e r =
        let also = needs 8 (not field.is_static && may_name m field.is_private field.owner) ∷ [] in
        let a = (takes_inverse p m at (Is (class_vtype field.owner) ∷ []) (vtype field.ty ∷ []) also f g r).also_hold in
        let s = is_not field.is_static (and_parts (not field.is_static) (may_name m field.is_private field.owner) (and_parts (not field.is_static && may_name m field.is_private field.owner) true a.0).0).0 in
        by_takes p facts.order m of h heap live at next f g ls vs i b (Is (class_vtype field.owner) ∷ []) (vtype field.ty ∷ []) also (tt, tt) r _ (λ c ts k.
        value_took p facts.order m of h heap (At i (vtype field.ty ∷ ts)) (λ c. tt) (Is (class_vtype field.owner)) [] ts vs k (λ v rest. as_object v h (λ n q. with_some (field_in q.fields x) (λ v. Goes next ls (v ∷ rest) h))) (λ v d t rest u.
        holder_is p facts m of h heap (At i (vtype field.ty ∷ ts)) (λ c. tt) x field e s v d t _ (λ n q there own.
        let y = content_there p of x field e q.class.dims q.class.base q (heap.objects n q there) own in
        subst (λ (z : Option Value). At i (vtype field.ty ∷ ts) (with_some z (λ v. Goes next ls (v ∷ rest) h))) (sym y.1)
        (going p facts.order m of h heap live at next f g ls vs i b w next on (vtype field.ty ∷ ts) (y.0 ∷ rest)
        (and_from (has_type p m of (vtype field.ty) y.0) (have_types p m of ts rest) (value_typed p facts.order of heap.proper m field.ty y.0 y.2) u)))))

    object_stored : (d : ℕ) (b1 : Base) (v : Value) → is_reference_type d b1 ≡ true → has_type p m of (Object (record { dims = d; base = b1 })) v ≡ true → is_value_of p of (record { dims = d; base = b1 }) (narrowed_to (record { dims = d; base = b1 }) v) ≡ true
    object_stored d b1 (value.Int n) r k = absurd (cc)
    object_stored d b1 (value.Long n) r k = absurd (cc)
    object_stored d b1 value.Null r k = value_of_typed p facts.order m of h heap live at next f g ls vs i b w on (record { dims = d; base = b1 }) value.Null r k
    object_stored d b1 (value.Ref n) r k = k
    object_stored d b1 (value.Text n) r k = k
    object_stored d b1 (value.Box n) r k = k
    object_stored d b1 value.Fiber r k = k

    int_stored : (b1 : Base) (v : Value) → ((x : ℤ) → int_fits b1 (narrowed_int b1 x) ≡ true) → has_type p m of Int v ≡ true → is_value_of p of (record { dims = 0; base = b1 }) (narrowed_to (record { dims = 0; base = b1 }) v) ≡ true
    int_stored b1 (value.Int n) fits k = fits n
    int_stored b1 (value.Long n) fits k = absurd (cc)
    int_stored b1 value.Null fits k = absurd (cc)
    int_stored b1 (value.Ref n) fits k = absurd (cc)
    int_stored b1 (value.Text n) fits k = absurd (cc)
    int_stored b1 (value.Box n) fits k = absurd (cc)
    int_stored b1 value.Fiber fits k = absurd (cc)

    -- a value that is stored is of the declared type
    stored_value : (d : ℕ) (b1 : Base) (v : Value) → has_type p m of (dims_vtype (record { dims = d; base = b1 }) d) v ≡ true → is_value_of p of (record { dims = d; base = b1 }) (narrowed_to (record { dims = d; base = b1 }) v) ≡ true
    stored_value zero base.Long v k = long v k
      where
        long : (v : Value) → has_type p m of Long v ≡ true → is_value_of p of (record { dims = 0; base = base.Long }) (narrowed_to (record { dims = 0; base = base.Long }) v) ≡ true
        long (value.Long n) k = refl
        long (value.Int n) k = absurd (cc)
        long value.Null k = absurd (cc)
        long (value.Ref n) k = absurd (cc)
        long (value.Text n) k = absurd (cc)
        long (value.Box n) k = absurd (cc)
        long value.Fiber k = absurd (cc)
    stored_value zero (base.Class c) v k = object_stored 0 (base.Class c) v refl k
    stored_value (suc d) b1 v k = object_stored (suc d) b1 v refl k
    stored_value zero base.Bool v k = int_stored base.Bool v (λ x. narrows base.Bool x refl) k
    stored_value zero base.Byte v k = int_stored base.Byte v (λ x. narrows base.Byte x refl) k
    stored_value zero base.Char v k = int_stored base.Char v (λ x. narrows base.Char x refl) k
    stored_value zero base.Short v k = int_stored base.Short v (λ x. narrows base.Short x refl) k
    stored_value zero base.Int v k = int_stored base.Int v (λ x. narrows base.Int x refl) k

    pub putfield_row : (o : Option Field) → field_of p x ≡ o → by_row p m at (field_row (instr.Putfield x) m o) f ≡ Ok g →
        After i (on_value vs (λ v below. on_object below h (λ n q rest. with_some o (λ field. with_some (field_in q.fields x) (λ (old : Value). Goes next ls rest (insert h n (record q { fields = with_field q.fields x (narrowed_to field.ty v) })))))))
    putfield_row None e r = absurd (missing_is r)
    putfield_row (Some field) e r =
        let also = needs 8 (not field.is_static && may_name m field.is_private field.owner) ∷ [] in
        let a = (takes_inverse p m at (Is (vtype field.ty) ∷ holder m field.owner ∷ []) [] also f g r).also_hold in
        let s = is_not field.is_static (and_parts (not field.is_static) (may_name m field.is_private field.owner) (and_parts (not field.is_static && may_name m field.is_private field.owner) true a.0).0).0 in
        by_takes p facts.order m of h heap live at next f g ls vs i b (Is (vtype field.ty) ∷ holder m field.owner ∷ []) [] also (tt, (plain (is_constructor m && eqb field.owner.0 m.owner.0), tt)) r _ (λ c ts k.
        value_took p facts.order m of h heap (At i ts) (λ c. tt) (Is (vtype field.ty)) (holder m field.owner ∷ []) ts vs k (λ v below. on_object below h (λ n q rest. with_some (field_in q.fields x) (λ (old : Value). Goes next ls rest (insert h n (record q { fields = with_field q.fields x (narrowed_to field.ty v) }))))) (λ v d t below u.
        value_took p facts.order m of h heap (At i ts) (λ c. tt) (holder m field.owner) [] ts below u (λ w2 rest. as_object w2 h (λ n q. with_some (field_in q.fields x) (λ (old : Value). Goes next ls rest (insert h n (record q { fields = with_field q.fields x (narrowed_to field.ty v) }))))) (λ y d2 t2 rest u2.
        holder_is p facts m of h heap (At i ts) (λ c. tt) x field e s y (held_holder (is_constructor m && eqb field.owner.0 m.owner.0) refl y d2) t2 (λ n q. with_some (field_in q.fields x) (λ (old : Value). Goes next ls rest (insert h n (record q { fields = with_field q.fields x (narrowed_to field.ty v) })))) (λ n q there own.
        let y = content_there p of x field e q.class.dims q.class.base q (heap.objects n q there) own in
        subst (λ (z : Option Value). At i ts (with_some z (λ (old : Value). Goes next ls rest (insert h n (record q { fields = with_field q.fields x (narrowed_to field.ty v) }))))) (sym y.1)
        (writing p facts.order m of h heap live at next f g ls vs i b w on ts rest n q (record q { fields = with_field q.fields x (narrowed_to field.ty v) }) u2 there refl
        (content_kept p of x field e (narrowed_to field.ty v) (stored_value field.ty.dims field.ty.base v (held_has p facts.order m of h heap (λ _. Unit {0}) (λ c. tt) (vtype field.ty) v (vtype_no_top field.ty) d)) q.class.dims q.class.base q (heap.objects n q there) own))))))
      where
        plain : (z : Bool) → PlainOperand p facts.order m of (cond z (Own field.owner) (Is (class_vtype field.owner)))
        plain true = tt
        plain false = tt

        this_is : field.owner.0 ≡ m.owner.0 → (y : Value) → has_type p m of UninitThis y ≡ true → has_type p m of (Object (class_type field.owner.0)) y ≡ true
        this_is q (value.Int n) k = absurd (cc)
        this_is q (value.Long n) k = absurd (cc)
        this_is q value.Null k = refl
        this_is q (value.Ref n) k = subst (λ (z : ℕ). is_of p (of n) (class_type z) ≡ true) (sym q) k
        this_is q (value.Text n) k = subst (λ (z : ℕ). is_of p (named_type p (codes "java/lang/String")) (class_type z) ≡ true) (sym q) k
        this_is q (value.Box n) k = subst (λ (z : ℕ). is_of p (named_type p (codes "kilim/Mailbox")) (class_type z) ≡ true) (sym q) k
        this_is q value.Fiber k = subst (λ (z : ℕ). is_of p (named_type p (codes "kilim/Fiber")) (class_type z) ≡ true) (sym q) k

        held_holder : (z : Bool) → (is_constructor m && eqb field.owner.0 m.owner.0) ≡ z → (y : Value) → Held p facts.order m of (cond z (Own field.owner) (Is (class_vtype field.owner))) y → has_type p m of (Object (class_type field.owner.0)) y ≡ true
        held_holder false q y k = k
        held_holder true q y (inr k) = k
        held_holder true q y (inl k) = this_is (eqb-true field.owner.0 m.owner.0 (and_parts (is_constructor m) (eqb field.owner.0 m.owner.0) q).1) y k

    int_constant : (d : ℕ) (b1 : Base) (n : ℤ) → (eqb d 0 && is_int_like b1) ≡ true → has_type p m of (dims_vtype (record { dims = d; base = b1 }) d) (value.Int n) ≡ true
    int_constant zero base.Bool n e = refl
    int_constant zero base.Byte n e = refl
    int_constant zero base.Char n e = refl
    int_constant zero base.Short n e = refl
    int_constant zero base.Int n e = refl
    int_constant zero base.Long n e = absurd (cc)
    int_constant zero (base.Class c) n e = absurd (cc)
    int_constant (suc d) b1 n e = absurd (let z = ne_eqb (suc d) 0 (λ q. omega (arith, q)) in let y = (and_parts (eqb (suc d) 0) (is_int_like b1) e).0 in cc)

    long_constant : (d : ℕ) (b1 : Base) (n : ℤ) → (eqb d 0 && is_long_ty b1) ≡ true → has_type p m of (dims_vtype (record { dims = d; base = b1 }) d) (value.Long n) ≡ true
    long_constant zero base.Long n e = refl
    long_constant zero b1 n e = absurd (cc)
    long_constant (suc d) b1 n e = absurd (let z = ne_eqb (suc d) 0 (λ q. omega (arith, q)) in let y = (and_parts (eqb (suc d) 0) (is_long_ty b1) e).0 in cc)

    text_constant : (d : ℕ) (b1 : Base) (u : List ℕ) → (eqb d 0 && is_string_base p b1) ≡ true → has_type p m of (dims_vtype (record { dims = d; base = b1 }) d) (value.Text u) ≡ true
    text_constant zero (base.Class c) u e = subst (λ (o : Option Ty). is_of p o (class_type c.0) ≡ true) (sym (facts.text_class c e)) (facts.order.itself (class_type c.0))
    text_constant zero b1 u e = absurd (cc)
    text_constant (suc d) b1 u e = absurd (let z = ne_eqb (suc d) 0 (λ q. omega (arith, q)) in let y = (and_parts (eqb (suc d) 0) (is_string_base p b1) e).0 in cc)

    pub getstatic_row : (o : Option Field) → field_of p x ≡ o → by_row p m at (field_row (instr.Getstatic x) m o) f ≡ Ok g → After i (with_some o (λ field. with_some field.constant (λ v. on_constant v (λ c. Goes next ls (c ∷ vs) h))))
    getstatic_row None e r = absurd (missing_is r)
    getstatic_row (Some field) e r =
        let also = needs 8 (field.is_static && may_name m field.is_private field.owner) ∷ [] in
        let a = (takes_inverse p m at [] (vtype field.ty ∷ []) also f g r).also_hold in
        let s = (and_parts field.is_static (may_name m field.is_private field.owner) (and_parts (field.is_static && may_name m field.is_private field.owner) true a.0).0).0 in
        by_takes p facts.order m of h heap live at next f g ls vs i b [] (vtype field.ty ∷ []) also tt r (with_some field.constant (λ v. on_constant v (λ c. Goes next ls (c ∷ vs) h))) (λ c ts k. by field.constant ts k (facts.constants x field e s))
      where
        goes : (ts : List VType) (v : Value) → has_type p m of (vtype field.ty) v ≡ true → have_types p m of ts vs ≡ true → At i (vtype field.ty ∷ ts) (Goes next ls (v ∷ vs) h)
        goes ts v t k = going p facts.order m of h heap live at next f g ls vs i b w next on (vtype field.ty ∷ ts) (v ∷ vs) (and_from (has_type p m of (vtype field.ty) v) (have_types p m of ts vs) t k)

        by : (o : Option Value) (ts : List VType) → have_types p m of ts vs ≡ true → constant_fits p field.ty o ≡ true → At i (vtype field.ty ∷ ts) (with_some o (λ v. on_constant v (λ c. Goes next ls (c ∷ vs) h)))
        by None ts k t = absurd (cc)
        by (Some (value.Int n)) ts k t = goes ts (value.Int n) (int_constant field.ty.dims field.ty.base n t) k
        by (Some (value.Long n)) ts k t = goes ts (value.Long n) (long_constant field.ty.dims field.ty.base n t) k
        by (Some (value.Text u)) ts k t = goes ts (value.Text u) (text_constant field.ty.dims field.ty.base u t) k
        by (Some value.Null) ts k t = absurd (cc)
        by (Some (value.Ref n)) ts k t = absurd (cc)
        by (Some (value.Box n)) ts k t = absurd (cc)
        by (Some value.Fiber) ts k t = absurd (cc)
