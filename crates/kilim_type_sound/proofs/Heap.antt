-- What instructions do with objects fits.
use Rattle.std.proofs.Common.{◌≡◌, ℕ, zero, suc, ℤ, pos, negsuc, Bool, true, false, cond, eqb, List, [], ◌∷◌, ◌++◌, length, Option, Some, None, Ok, refl, ap, subst, ◌∙◌, arith, ◌%◌, ◌^◌, ◌-◌}
use Rattle.std.specs.Prelude.{◌||◌, not, nat_lt, slice_set, codes}
use Rattle.std.specs.Int.{w32, cast_signed}
use Rattle.std.specs.FinMap.{get, insert}
use Rattle.std.specs.List.{list_any}
use Rattle.std.proofs.lemmas.Bool.{and_parts, and_from, eqb-true, ne_eqb}
use Rattle.kilim_run_state.specs.declared.cause.EndCause.TheVariants as cause
use Rattle.kilim_program.specs.declared.class.Method.{Method}
use Rattle.kilim_program.specs.declared.instr.Instr.{Instr}
use Rattle.kilim_program.specs.declared.names.ClassId.{ClassId}
use Rattle.kilim_program.specs.declared.ty.Base.{Base}
use Rattle.kilim_program.specs.declared.ty.Base.TheVariants as base
use Rattle.kilim_program.specs.declared.ty.Ty.{Ty}
use Rattle.kilim_run_state.specs.declared.value.Object.{Object as HeapObject}
use Rattle.kilim_program.specs.declared.value.Value.{Value}
use Rattle.kilim_program.specs.declared.value.Value.TheVariants as value
use Rattle.kilim_program.specs.declared.verified.VType.{VType}
use Rattle.kilim_program.specs.declared.verified.VType.TheVariants.{Int, Long, Null, Object}
use Rattle.kilim_program.specs.Program.{Program}
use Rattle.kilim_program.specs.Keeps.{has_base}
use Rattle.kilim_run_state.specs.Machine.{Objects}
use Rattle.kilim_program.specs.Names.{class_named}
use Rattle.kilim_program.specs.Same.{same_base}
use Rattle.kilim_program.specs.Fits.{is_reference_base}
use Rattle.kilim_run_machine.specs.Effect.{Effect, Goes, Makes, Raises, Ends, on_value, as_long, on_int, on_long, on_object, as_object, as_class, at_index}
use Rattle.kilim_program.specs.Members.{named_type}
use Rattle.kilim_run_machine.specs.Does.{loads_int, cast_fits, is_instance, bit, element_type, makes_array, array_limit, array_of}
use Rattle.kilim_run_state.specs.Objects.{new_array, first_value_of}
use Rattle.kilim_type_spec.specs.Step.{Types, Operand, Is, ArrayOf, References, AnArray, Further, Takes, by_row, gives_int, gives_long, object_type, vtype_of_class, is_array_of, array_ty}
use Rattle.kilim_type_spec.specs.Typed.{writes, edges, Among}
use Rattle.kilim_type_sound.specs.Fits.{Classes, is_of, has_type, have_types, HeapFits, ObjectFits, is_value_of, int_fits}
use Rattle.kilim_program.specs.Lengths.{is_reference_type}
use Rattle.kilim_program.specs.Fits.{is_reference_base}
use Rattle.kilim_type_sound.specs.Sound.{EffectFits}
use Rattle.kilim_type_sound.specs.Facts.{Ordered}
use Rattle.kilim_type_sound.proofs.Basics.{class_of, is_reference, HeldArray, Held, Taken, Furthers, PlainOperands, Plain, is_array, is_references, is_ref_array}
use Rattle.kilim_type_sound.proofs.Words.{value_took, int_is, long_is, int_took, long_took, array_is, index_is, class_is}
use Rattle.kilim_type_sound.proofs.Values.{is_int_base, base_ty, int_value, long_value, all_at, all_set, all_same, elements_fit, with_elements, written}
use Rattle.kilim_type_sound.proofs.Rows.{Before, by_takes, kept, going}

module _ (p : Program) (order : Ordered p) (m : Method) (of : Classes) (h : Objects) (heap : HeapFits p of h) (live : ℕ → ℕ → Bool) (at next : ℕ) (f g : Types) (ls vs : List Value) where
  abbrev B : Instr → Type 0
  B i = Before p m of h live at next f ls vs i

  abbrev After : Instr → Effect → Type 0
  After i e = EffectFits p m of live next ls h (edges i next) g e

  abbrev At : Instr → List VType → Effect → Type 0
  At i s e = EffectFits p m of live next ls h (edges i next) (record f { stack = s }) e

  pub one_dim : (bases : List Base) (ty : Ty) → is_array_of bases ty ≡ true → (ty.dims ≡ 1) × (list_any (same_base ty.base) bases ≡ true)
  one_dim bases ty e = let es = and_parts (eqb ty.dims 1) (list_any (same_base ty.base) bases) e in (eqb-true ty.dims 1 es.0, es.1)

  array_took : (S : Effect → Type 0) → ((c : _) → S (Raises c)) → (o : Operand) (test : Ty → Bool) → ((v : Value) → Held p order m of o v → HeldArray of test v) → (os : List Operand) (ts : List VType) (ws : List Value) → Taken p order m of h (o ∷ os) ts ws →
      (go : ℕ → HeapObject → List Value → Effect) → ((n : ℕ) (x : HeapObject) → get h n ≡ Some x → test x.class ≡ true → ObjectFits p of x → (rest : List Value) → Taken p order m of h os ts rest → S (go n x rest)) → S (on_object ws h go)
  array_took S ended o test is os ts ws t go k = value_took p order m of h heap S ended o os ts ws t (λ v rest. as_object v h (λ n object. go n object rest))
      (λ v e there rest r. array_is p order m of h heap S ended test v (is v e) there (λ n object. go n object rest) (λ n x g1 c fit. k n x g1 c fit rest r))

  module _ (i : Instr) (b : B i) (w : (k : ℕ) → writes i k ≡ false) (on : Among (edges i next) next) where
    goes : (s : List VType) (ws : List Value) → have_types p m of s ws ≡ true → At i s (Goes next ls ws h)
    goes s ws e = going p order m of h heap live at next f g ls vs i b w next on s ws e

    pub writing : (s : List VType) (ws : List Value) (n : ℕ) (o q : HeapObject) → have_types p m of s ws ≡ true → get h n ≡ Some o → q.class ≡ o.class → ObjectFits p of q → At i s (Goes next ls ws (insert h n q))
    writing s ws n o q e there same fit = record { among = on; locals = kept p order m of h heap live at next f g ls vs i b w next on; stack = e; heap = written p of h heap n o q there same fit }

    takes : (os : List Operand) (gives : List VType) (also : List Further) → PlainOperands p order m of os → by_row p m at (Takes os gives also) f ≡ Ok g → (e : Effect) → (Furthers p also f.stack → (ts : List VType) → Taken p order m of h os ts vs → At i (gives ++ ts) e) → After i e
    takes os gives also plain r e k = by_takes p order m of h heap live at next f g ls vs i b os gives also plain r e k

    -- ---- arrays of numbers

    pub load_ints : (bases : List Base) → Plain p order m of bases → ((c : Base) → list_any (same_base c) bases ≡ true → is_int_base c ≡ true) → by_row p m at (gives_int (Is Int ∷ ArrayOf bases ∷ [])) f ≡ Ok g → After i (loads_int next ls vs h)
    load_ints bases plain are r = takes (Is Int ∷ ArrayOf bases ∷ []) (Int ∷ []) [] (tt, (plain, tt)) r (loads_int next ls vs h) (λ a ts k.
        int_took p order m of h heap (At i (Int ∷ ts)) (λ c. tt) (ArrayOf bases ∷ []) ts vs k _ (λ x below t.
        array_took (At i (Int ∷ ts)) (λ c. tt) (ArrayOf bases) (is_array_of bases) (λ v e. e) [] ts below t _ (λ n o there c fit rest u.
        index_is p order m of h heap (At i (Int ∷ ts)) (λ c. tt) o.elements x _ (λ k v e.
        let dims = one_dim bases o.class c in
        int_is p order m of h heap (At i (Int ∷ ts)) (λ c. tt) v
        (int_value p order of heap.proper m o.class.base v (are o.class.base dims.1) (all_at p order of heap.proper (is_value_of p of (base_ty o.class.base)) o.elements k v (elements_fit p order of heap.proper o 0 dims.0 fit) e)) _
        (λ y. goes (Int ∷ ts) (value.Int y ∷ rest) u)))))

    pub load_longs : by_row p m at (gives_long (Is Int ∷ ArrayOf (base.Long ∷ []) ∷ [])) f ≡ Ok g → After i (on_int vs (λ i below. on_object below h (λ n o rest. at_index o.elements i (λ k v. as_long v (λ x. Goes next ls (value.Long x ∷ rest) h)))))
    load_longs r = takes (Is Int ∷ ArrayOf (base.Long ∷ []) ∷ []) (Long ∷ []) [] (tt, (plain, tt)) r _ (λ a ts k.
        int_took p order m of h heap (At i (Long ∷ ts)) (λ c. tt) (ArrayOf (base.Long ∷ []) ∷ []) ts vs k _ (λ x below t.
        array_took (At i (Long ∷ ts)) (λ c. tt) (ArrayOf (base.Long ∷ [])) (is_array_of (base.Long ∷ [])) (λ v e. e) [] ts below t _ (λ n o there c fit rest u.
        index_is p order m of h heap (At i (Long ∷ ts)) (λ c. tt) o.elements x _ (λ k v e.
        let dims = one_dim (base.Long ∷ []) o.class c in
        long_is p order m of h heap (At i (Long ∷ ts)) (λ c. tt) v
        (long_value p order of heap.proper m v (subst (λ (z : Base). is_value_of p of (base_ty z) v ≡ true) (long_base o.class.base dims.1) (all_at p order of heap.proper (is_value_of p of (base_ty o.class.base)) o.elements k v (elements_fit p order of heap.proper o 0 dims.0 fit) e))) _
        (λ y. goes (Long ∷ ts) (value.Long y ∷ rest) u)))))
      where
        plain : (c : Base) → is_reference_base c ≡ true → list_any (same_base c) (base.Long ∷ []) ≡ false
        plain (base.Class c) e = refl
        plain c e = absurd (cc)

        long_base : (c : Base) → list_any (same_base c) (base.Long ∷ []) ≡ true → c ≡ base.Long
        long_base base.Long e = refl
        long_base c e = absurd (cc)

    pub store_ints : (bases : List Base) → Plain p order m of bases → (to : Base → ℤ → ℤ) → ((c : Base) (x : ℤ) → list_any (same_base c) bases ≡ true → int_fits c (to c x) ≡ true) → by_row p m at (Takes (Is Int ∷ Is Int ∷ ArrayOf bases ∷ []) [] []) f ≡ Ok g →
        After i (on_int vs (λ x above. on_int above (λ i below. on_object below h (λ n o rest. at_index o.elements i (λ k old. Goes next ls rest (insert h n (record o { elements = slice_set o.elements k (value.Int (to o.class.base x)) })))))))
    store_ints bases plain to fits r = takes (Is Int ∷ Is Int ∷ ArrayOf bases ∷ []) [] [] (tt, (tt, (plain, tt))) r _ (λ a ts k.
        int_took p order m of h heap (At i ts) (λ c. tt) (Is Int ∷ ArrayOf bases ∷ []) ts vs k _ (λ y above t.
        int_took p order m of h heap (At i ts) (λ c. tt) (ArrayOf bases ∷ []) ts above t _ (λ x below u.
        array_took (At i ts) (λ c. tt) (ArrayOf bases) (is_array_of bases) (λ v e. e) [] ts below u _ (λ n o there c fit rest q.
        index_is p order m of h heap (At i ts) (λ c. tt) o.elements x _ (λ k v e.
        let dims = one_dim bases o.class c in
        writing ts rest n o (record o { elements = slice_set o.elements k (value.Int (to o.class.base y)) }) q there refl
        (with_elements p order of heap.proper o 0 (slice_set o.elements k (value.Int (to o.class.base y))) dims.0 fit
        (all_set p order of heap.proper (is_value_of p of (base_ty o.class.base)) o.elements k (value.Int (to o.class.base y)) (elements_fit p order of heap.proper o 0 dims.0 fit) (fits o.class.base y dims.1))))))))

    pub store_longs : by_row p m at (Takes (Is Long ∷ Is Int ∷ ArrayOf (base.Long ∷ []) ∷ []) [] []) f ≡ Ok g →
        After i (on_long vs (λ x above. on_int above (λ i below. on_object below h (λ n o rest. at_index o.elements i (λ k old. Goes next ls rest (insert h n (record o { elements = slice_set o.elements k (value.Long x) })))))))
    store_longs r = takes (Is Long ∷ Is Int ∷ ArrayOf (base.Long ∷ []) ∷ []) [] [] (tt, (tt, (plain, tt))) r _ (λ a ts k.
        long_took p order m of h heap (At i ts) (λ c. tt) (Is Int ∷ ArrayOf (base.Long ∷ []) ∷ []) ts vs k _ (λ y above t.
        int_took p order m of h heap (At i ts) (λ c. tt) (ArrayOf (base.Long ∷ []) ∷ []) ts above t _ (λ x below u.
        array_took (At i ts) (λ c. tt) (ArrayOf (base.Long ∷ [])) (is_array_of (base.Long ∷ [])) (λ v e. e) [] ts below u _ (λ n o there c fit rest q.
        index_is p order m of h heap (At i ts) (λ c. tt) o.elements x _ (λ k v e.
        let dims = one_dim (base.Long ∷ []) o.class c in
        writing ts rest n o (record o { elements = slice_set o.elements k (value.Long y) }) q there refl
        (with_elements p order of heap.proper o 0 (slice_set o.elements k (value.Long y)) dims.0 fit
        (all_set p order of heap.proper (is_value_of p of (base_ty o.class.base)) o.elements k (value.Long y) (elements_fit p order of heap.proper o 0 dims.0 fit) (long_base o.class.base y dims.1))))))))
      where
        plain : (c : Base) → is_reference_base c ≡ true → list_any (same_base c) (base.Long ∷ []) ≡ false
        plain (base.Class c) e = refl
        plain c e = absurd (cc)

        long_base : (c : Base) (y : ℤ) → list_any (same_base c) (base.Long ∷ []) ≡ true → is_value_of p of (base_ty c) (value.Long y) ≡ true
        long_base base.Long y e = refl
        long_base c y e = absurd (cc)

    pub length_row : by_row p m at (gives_int (AnArray ∷ [])) f ≡ Ok g → After i (on_object vs h (λ n o rest. Goes next ls (value.Int (cast_signed w32 (length o.elements % 2 ^ 32)) ∷ rest) h))
    length_row r = takes (AnArray ∷ []) (Int ∷ []) [] (tt, tt) r _ (λ a ts k.
        array_took (At i (Int ∷ ts)) (λ c. tt) AnArray is_array (λ v e. e) [] ts vs k _ (λ n o there c fit rest q. goes (Int ∷ ts) (value.Int (cast_signed w32 (length o.elements % 2 ^ 32)) ∷ rest) q))

    -- ---- casts

    -- a value of the type of `java/lang/Object`
    pub record Any (v : Value) : Type 0 where
      pub reference : is_reference v ≡ true
      pub cast : (ty : Ty) → cast_fits p (class_of p of v) ty ≡ true → has_type p m of (Object ty) v ≡ true

    some_cast : (o : Option Ty) (a ty : Ty) → is_of p o a ≡ true → cast_fits p o ty ≡ true → is_of p o ty ≡ true
    some_cast None a ty e c = absurd (cc)
    some_cast (Some d) a ty e c = c

    any_of : (a : Ty) (v : Value) → has_type p m of (Object a) v ≡ true → Any v
    any_of a (value.Int x) e = absurd (cc)
    any_of a (value.Long x) e = absurd (cc)
    any_of a value.Null e = record { reference = refl; cast = λ ty c. refl }
    any_of a (value.Ref n) e = record { reference = refl; cast = λ ty c. some_cast (of n) a ty e c }
    any_of a (value.Text u) e = record { reference = refl; cast = λ ty c. some_cast (named_type p (codes "java/lang/String")) a ty e c }
    any_of a (value.Box x) e = record { reference = refl; cast = λ ty c. some_cast (named_type p (codes "kilim/Mailbox")) a ty e c }
    any_of a value.Fiber e = record { reference = refl; cast = λ ty c. some_cast (named_type p (codes "kilim/Fiber")) a ty e c }

    any_null : (v : Value) → has_type p m of Null v ≡ true → Any v
    any_null (value.Int x) e = absurd (cc)
    any_null (value.Long x) e = absurd (cc)
    any_null value.Null e = record { reference = refl; cast = λ ty c. refl }
    any_null (value.Ref n) e = absurd (cc)
    any_null (value.Text u) e = absurd (cc)
    any_null (value.Box x) e = absurd (cc)
    any_null value.Fiber e = absurd (cc)

    any_by : (o : Option ClassId) (v : Value) → Held p order m of (Is (vtype_of_class o)) v → Any v
    any_by None v e = any_null v e
    any_by (Some c) v e = any_of _ v e

    any : (v : Value) → Held p order m of (Is (object_type p)) v → Any v
    any v e = any_by (class_named p (codes "java/lang/Object")) v e

    pub cast_row : (ty : Ty) → by_row p m at (Takes (Is (object_type p) ∷ []) (Object ty ∷ []) []) f ≡ Ok g → After i (on_value vs (λ v rest. as_class p v h (λ class. cond (cast_fits p class ty) (Goes next ls (v ∷ rest) h) (Raises cause.Cast))))
    cast_row ty r = takes (Is (object_type p) ∷ []) (Object ty ∷ []) [] (tt, tt) r _ (λ a ts k.
        value_took p order m of h heap (At i (Object ty ∷ ts)) (λ c. tt) (Is (object_type p)) [] ts vs k _ (λ v e there rest t.
        class_is p order m of h heap (At i (Object ty ∷ ts)) (λ c. tt) v (any v e).reference there (λ class. cond (cast_fits p class ty) (Goes next ls (v ∷ rest) h) (Raises cause.Cast)) (by ts v (any v e) rest t (cast_fits p (class_of p of v) ty) refl)))
      where
        by : (ts : List VType) (v : Value) → Any v → (rest : List Value) → have_types p m of ts rest ≡ true → (c : Bool) → cast_fits p (class_of p of v) ty ≡ c → At i (Object ty ∷ ts) (cond c (Goes next ls (v ∷ rest) h) (Raises cause.Cast))
        by ts v y rest t true c = goes (Object ty ∷ ts) (v ∷ rest) (and_from (has_type p m of (Object ty) v) (have_types p m of ts rest) (y.cast ty c) t)
        by ts v y rest t false c = tt

    pub instance_row : (ty : Ty) → by_row p m at (Takes (Is (object_type p) ∷ []) (Int ∷ []) []) f ≡ Ok g → After i (on_value vs (λ v rest. as_class p v h (λ class. Goes next ls (value.Int (bit (is_instance p class ty)) ∷ rest) h)))
    instance_row ty r = takes (Is (object_type p) ∷ []) (Int ∷ []) [] (tt, tt) r _ (λ a ts k.
        value_took p order m of h heap (At i (Int ∷ ts)) (λ c. tt) (Is (object_type p)) [] ts vs k _ (λ v e there rest t.
        class_is p order m of h heap (At i (Int ∷ ts)) (λ c. tt) v (any v e).reference there (λ class. Goes next ls (value.Int (bit (is_instance p class ty)) ∷ rest) h) (goes (Int ∷ ts) (value.Int (bit (is_instance p (class_of p of v) ty)) ∷ rest) t)))

    -- ---- arrays of references

    pub value_of_typed : (ty : Ty) (v : Value) → is_reference_type ty.dims ty.base ≡ true → has_type p m of (Object ty) v ≡ true → is_value_of p of ty v ≡ true
    value_of_typed ty (value.Int x) r e = absurd (cc)
    value_of_typed ty (value.Long x) r e = absurd (cc)
    value_of_typed ty value.Null r e = null_of ty.dims ty.base r
      where
        null_of : (d : ℕ) (c : Base) → is_reference_type d c ≡ true → (not (eqb d 0) || is_reference_base c) ≡ true
        null_of zero c r = r
        null_of (suc d) c r = ap (λ (z : Bool). not z || is_reference_base c) (ne_eqb (suc d) 0 (λ q. omega (arith, q)))
    value_of_typed ty (value.Ref n) r e = e
    value_of_typed ty (value.Text u) r e = e
    value_of_typed ty (value.Box x) r e = e
    value_of_typed ty value.Fiber r e = e

    pub element_reference : (d : ℕ) (c : Base) → is_ref_array d c ≡ true → (e : ℕ) × (d ≡ suc e) × (is_reference_type e c ≡ true)
    element_reference zero c r = absurd (cc)
    element_reference (suc zero) (base.Class c) r = (0, refl, refl)
    element_reference (suc zero) c r = absurd (cc)
    element_reference (suc (suc d)) c r = (suc d, refl, refl)

    pub store_object : by_row p m at (Takes (Is (object_type p) ∷ Is Int ∷ References ∷ []) [] []) f ≡ Ok g →
        After i (on_value vs (λ v above. on_int above (λ i below. on_object below h (λ n o rest. at_index o.elements i (λ k old. as_class p v h (λ class.
        cond (cast_fits p class (element_type o.class)) (Goes next ls rest (insert h n (record o { elements = slice_set o.elements k v }))) (Raises cause.Store)))))))
    store_object r = takes (Is (object_type p) ∷ Is Int ∷ References ∷ []) [] [] (tt, (tt, (tt, tt))) r _ (λ a ts k.
        value_took p order m of h heap (At i ts) (λ c. tt) (Is (object_type p)) (Is Int ∷ References ∷ []) ts vs k _ (λ v e vt above t.
        int_took p order m of h heap (At i ts) (λ c. tt) (References ∷ []) ts above t _ (λ x below u.
        array_took (At i ts) (λ c. tt) References is_references (λ v e. e) [] ts below u _ (λ n o there c fit rest q.
        index_is p order m of h heap (At i ts) (λ c. tt) o.elements x _ (λ k old d.
        class_is p order m of h heap (At i ts) (λ c. tt) v (any v e).reference vt (λ class. cond (cast_fits p class (element_type o.class)) (Goes next ls rest (insert h n (record o { elements = slice_set o.elements k v }))) (Raises cause.Store))
        (by ts v (any v e) rest q n o there fit k (element_reference o.class.dims o.class.base c) (cast_fits p (class_of p of v) (element_type o.class)) refl))))))
      where
        by : (ts : List VType) (v : Value) → Any v → (rest : List Value) → have_types p m of ts rest ≡ true → (n : ℕ) (o : HeapObject) → get h n ≡ Some o → ObjectFits p of o → (k : ℕ) → (e : ℕ) × (o.class.dims ≡ suc e) × (is_reference_type e o.class.base ≡ true) →
            (c : Bool) → cast_fits p (class_of p of v) (element_type o.class) ≡ c → At i ts (cond c (Goes next ls rest (insert h n (record o { elements = slice_set o.elements k v }))) (Raises cause.Store))
        by ts v y rest t n o there fit k d false c = tt
        by ts v y rest t n o there fit k d true c =
            let elem : element_type o.class ≡ record { dims = d.0; base = o.class.base } = ap (λ (q : ℕ). record { dims = q - 1; base = o.class.base }) d.1 ∙ ap (λ (q : ℕ). record { dims = q; base = o.class.base }) (omega arith) in
            let typed = value_of_typed (record { dims = d.0; base = o.class.base }) v d.2 (y.cast _ (subst (λ (ty : Ty). cast_fits p (class_of p of v) ty ≡ true) elem c)) in
            writing ts rest n o (record o { elements = slice_set o.elements k v }) t there refl
            (with_elements p order of heap.proper o d.0 (slice_set o.elements k v) d.1 fit (all_set p order of heap.proper (is_value_of p of (record { dims = d.0; base = o.class.base })) o.elements k v (elements_fit p order of heap.proper o d.0 d.1 fit) typed))

    -- ---- new arrays

    pub zero_fits : (c : Base) → is_value_of p of (base_ty c) (first_value_of c) ≡ true
    zero_fits base.Bool = refl
    zero_fits base.Byte = refl
    zero_fits base.Char = refl
    zero_fits base.Short = refl
    zero_fits base.Int = refl
    zero_fits base.Long = refl
    zero_fits (base.Class c) = refl

    array_made : (d : ℕ) (c : Base) (v : Value) → has_base p c ≡ true → is_value_of p of (record { dims = d; base = c }) v ≡ true → (ts : List VType) (x : ℤ) (rest : List Value) → have_types p m of ts rest ≡ true →
        At i (Object (record { dims = suc d; base = c }) ∷ ts) (makes_array (record { dims = suc d; base = c }) v x next ls rest h)
    array_made d c v there e ts (negsuc n) rest t = tt
    array_made d c v there e ts (pos n) rest t = by (nat_lt array_limit n)
      where
        by : (z : Bool) → At i (Object (record { dims = suc d; base = c }) ∷ ts) (cond z (Ends cause.Large) (Makes (new_array (record { dims = suc d; base = c }) v n) next ls rest h))
        by true = tt
        by false = (
          (refl, all_same p order of heap.proper (is_value_of p of (record { dims = d; base = c })) n v e, there),
          record { among = on; locals = kept p order m of h heap live at next f g ls vs i b w next on; stack = (order.itself (record { dims = suc d; base = c }), t); heap = heap },
        )

    pub newarray_row : (c : Base) → has_base p c ≡ true → by_row p m at (Takes (Is Int ∷ []) (Object (record { dims = 1; base = c }) ∷ []) []) f ≡ Ok g → After i (on_int vs (λ n rest. makes_array (record { dims = 1; base = c }) (first_value_of c) n next ls rest h))
    newarray_row c there r = takes (Is Int ∷ []) (Object (record { dims = 1; base = c }) ∷ []) [] (tt, tt) r _ (λ a ts k.
        int_took p order m of h heap (At i (Object (record { dims = 1; base = c }) ∷ ts)) (λ c. tt) [] ts vs k _ (λ x rest t. array_made 0 c (first_value_of c) there (zero_fits c) ts x rest t))

    -- the element's type is a class or an array
    pub anewarray_row : (ty : Ty) → is_reference_type ty.dims ty.base ≡ true → has_base p ty.base ≡ true → (also : List Further) → by_row p m at (Takes (Is Int ∷ []) (Object (array_ty ty) ∷ []) also) f ≡ Ok g → After i (on_int vs (λ n rest. makes_array (array_of ty) value.Null n next ls rest h))
    anewarray_row ty is there also r = takes (Is Int ∷ []) (Object (array_ty ty) ∷ []) also (tt, tt) r _ (λ a ts k.
        int_took p order m of h heap (At i (Object (array_ty ty) ∷ ts)) (λ c. tt) [] ts vs k _ (λ x rest t. array_made ty.dims ty.base value.Null there (value_of_typed ty value.Null is refl) ts x rest t))
