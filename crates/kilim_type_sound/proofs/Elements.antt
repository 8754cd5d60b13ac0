-- An element of an array of references fits.
use Rattle.std.proofs.Common.{◌≡◌, ℕ, zero, suc, ℤ, ◌-◌, Bool, true, false, true≢false, List, [], ◌∷◌, drop, Option, Result, Ok, Err, refl, sym, ap, subst, ◌∙◌, arith}
use Rattle.std.specs.Prelude.{◌&&◌, slice_set}
use Rattle.std.specs.FinMap.{insert}
use Rattle.std.proofs.lemmas.Bool.{and_parts, and_from}
use Rattle.kilim_program.specs.declared.class.Method.{Method}
use Rattle.kilim_program.specs.declared.instr.Instr.{Instr}
use Rattle.kilim_program.specs.declared.names.ClassId.{ClassId}
use Rattle.kilim_program.specs.declared.ty.Base.{Base}
use Rattle.kilim_program.specs.declared.ty.Base.TheVariants as base
use Rattle.kilim_program.specs.declared.ty.Ty.{Ty}
use Rattle.kilim_run_state.specs.declared.value.Object.{Object as HeapObject}
use Rattle.kilim_program.specs.declared.value.Value.{Value}
use Rattle.kilim_program.specs.declared.value.Value.TheVariants as value
use Rattle.kilim_program.specs.declared.verified.VType.{VType}
use Rattle.kilim_program.specs.declared.verified.VType.TheVariants.{Top, Int, Long, Null, UninitThis, Uninit, Object}
use Rattle.kilim_program.specs.Program.{Program}
use Rattle.kilim_run_state.specs.Machine.{Objects}
use Rattle.kilim_program.specs.Fits.{fits_type, type_assignable}
use Rattle.kilim_run_machine.specs.Effect.{Effect, Goes, with_some, on_int, on_object, as_object, at_index}
use Rattle.kilim_type_spec.specs.Step.{Types, Is, References, Element, by_row, meets, all_meet, element, with_element, rule, has_room, has_operands, vtype, dims_vtype}
use Rattle.kilim_type_spec.specs.Typed.{writes, edges, Among}
use Rattle.kilim_type_sound.specs.Fits.{Classes, is_of, has_type, have_types, HeapFits, AreThere, IsThere, is_value_of}
use Rattle.kilim_program.specs.Lengths.{is_reference_type}
use Rattle.kilim_type_sound.specs.Sound.{EffectFits}
use Rattle.kilim_type_sound.specs.Facts.{Ordered}
use Rattle.kilim_type_sound.proofs.Basics.{passed, ok_is, is_ref_array, ref_array, null_alone, object_assigned, references_below, not_array, Taken, held}
use Rattle.kilim_type_sound.proofs.Words.{int_is, index_is, int_took, value_took}
use Rattle.kilim_type_sound.proofs.Values.{object_value, all_at, all_set, elements_fit, with_elements}
use Rattle.kilim_type_sound.proofs.Heap.{value_of_typed, writing}
use Rattle.kilim_type_sound.proofs.Rows.{Before, going, met_int}

module _ (p : Program) (order : Ordered p) (m : Method) (of : Classes) (h : Objects) (heap : HeapFits p of h) (live : ℕ → ℕ → Bool) (at next : ℕ) (f g : Types) (ls vs : List Value) where
  reference_vtype : (d : ℕ) (c : Base) → is_reference_type d c ≡ true → dims_vtype (record { dims = d; base = c }) d ≡ Object (record { dims = d; base = c })
  reference_vtype zero (base.Class k) r = refl
  reference_vtype (suc d) c r = refl
  reference_vtype zero base.Bool r = absurd (cc)
  reference_vtype zero base.Byte r = absurd (cc)
  reference_vtype zero base.Char r = absurd (cc)
  reference_vtype zero base.Short r = absurd (cc)
  reference_vtype zero base.Int r = absurd (cc)
  reference_vtype zero base.Long r = absurd (cc)

  parts : (d : ℕ) (c : Base) → is_ref_array d c ≡ true → (e : ℕ) × (d ≡ suc e) × (is_reference_type e c ≡ true)
  parts zero c r = absurd (cc)
  parts (suc zero) (base.Class c) r = (0, refl, refl)
  parts (suc zero) c r = absurd (cc)
  parts (suc (suc d)) c r = (suc d, refl, refl)

  -- an element of an array whose type is assignable to that one
  element_typed : (a d : ℕ) (x y : Base) → is_ref_array d y ≡ true → fits_type p (record { dims = a; base = x }) (record { dims = d; base = y }) ≡ true → (v : Value) → ((e : ℕ) → a ≡ suc e → is_value_of p of (record { dims = e; base = x }) v ≡ true) →
      has_type p m of (vtype (record { dims = d - 1; base = y })) v ≡ true
  unfolding fits_type
  element_typed zero d x y r e v k = absurd (let z = parts d y r in let w = subst (λ (n : ℕ). type_assignable p zero x n y ≡ true) z.1 e in true≢false (sym w))
  element_typed (suc a) d x y r e v k =
      let z = parts d y r in
      let less : d - 1 ≡ z.0 = let q = z.1 in omega (arith, q) in
      let e2 : type_assignable p a x z.0 y ≡ true = subst (λ (n : ℕ). type_assignable p (suc a) x n y ≡ true) z.1 e in
      let from = object_value p order of heap.proper m a x v (below a z.0 x y e2 z.2) (k a refl) in
      subst (λ (n : ℕ). has_type p m of (vtype (record { dims = n; base = y })) v ≡ true) (sym less)
      (subst (λ (t : VType). has_type p m of t v ≡ true) (sym (reference_vtype z.0 y z.2)) (object_assigned p order m of (record { dims = a; base = x }) (record { dims = z.0; base = y }) v e2 from))
    where
      below : (a e : ℕ) (x y : Base) → type_assignable p a x e y ≡ true → is_reference_type e y ≡ true → is_reference_type a x ≡ true
      below (suc a) e x y k r = refl
      below zero (suc e) x y k r = absurd (true≢false (sym k))
      below zero zero (base.Class c) y k r = refl
      below zero zero x (base.Class c) k r = absurd (true≢false (sym k))
      below zero zero x y k r = absurd (true≢false (sym r))

  module _ (i : Instr) (b : Before p m of h live at next f ls vs i) (w : (k : ℕ) → writes i k ≡ false) (on : Among (edges i next) next) where
    abbrev After : Effect → Type 0
    After e = EffectFits p m of live next ls h (edges i next) g e

    go : ℕ → HeapObject → ℤ → List Value → Effect
    go n o x rest = at_index o.elements x (λ k v. Goes next ls (v ∷ rest) h)

    on_array : (t : VType) (s : List VType) (v : Value) (rest : List Value) (x : ℤ) → meets p References t ≡ true → has_type p m of t v ≡ true → IsThere h v → have_types p m of s rest ≡ true →
        ((e : VType) → element (Int ∷ t ∷ s) ≡ Ok e → record f { stack = e ∷ s } ≡ g) → After (as_object v h (λ n o. at_index o.elements x (λ k v. Goes next ls (v ∷ rest) h)))
    unfolding meets
    on_array Null s v rest x r k t q c = subst (λ (z : Value). After (as_object z h (λ n o. at_index o.elements x (λ k v. Goes next ls (v ∷ rest) h)))) (sym (null_alone p order m of v k)) tt
    on_array (Object ty) s v rest x r k t q c = by v k t
      where
        by : (v : Value) → has_type p m of (Object ty) v ≡ true → IsThere h v → After (as_object v h (λ n o. at_index o.elements x (λ k v. Goes next ls (v ∷ rest) h)))
        by value.Null k t = tt
        by (value.Ref n) k t = subst (λ (z : Option HeapObject). After (with_some z (λ o. at_index o.elements x (λ k v. Goes next ls (v ∷ rest) h)))) (sym t.1)
            (index_is p order m of h heap After (λ c. tt) t.0.elements x (λ k v. Goes next ls (v ∷ rest) h) (λ j y e.
            subst (λ (z : Types). EffectFits p m of live next ls h (edges i next) z (Goes next ls (y ∷ rest) h)) (c (vtype (record ty { dims = ty.dims - 1 })) refl)
            (going p order m of h heap live at next f g ls vs i b w next on (vtype (record ty { dims = ty.dims - 1 }) ∷ s) (y ∷ rest)
            (and_from (has_type p m of (vtype (record ty { dims = ty.dims - 1 })) y) (have_types p m of s rest)
            (element_typed t.0.class.dims ty.dims t.0.class.base ty.base (ref_array ty.dims ty.base r) (subst (λ (o : Option Ty). is_of p o ty ≡ true) (heap.classes n t.0 t.1) k) y
            (λ d z. all_at p order of heap.proper (is_value_of p of (record { dims = d; base = t.0.class.base })) t.0.elements j y (elements_fit p order of heap.proper t.0 d z (heap.objects n t.0 t.1)) e)) q))))
        by (value.Int n) k t = absurd (cc)
        by (value.Long n) k t = absurd (cc)
        by (value.Text n) k t = absurd (no_text k)
          where
            no_text : has_type p m of (Object ty) (value.Text n) ≡ true → ⊥
            no_text k = held p order m of References (Object ty) (value.Text n) tt r k
        by (value.Box n) k t = absurd (no_box k)
          where
            no_box : has_type p m of (Object ty) (value.Box n) ≡ true → ⊥
            no_box k = held p order m of References (Object ty) (value.Box n) tt r k
        by value.Fiber k t = absurd (no_fiber k)
          where
            no_fiber : has_type p m of (Object ty) value.Fiber ≡ true → ⊥
            no_fiber k = held p order m of References (Object ty) value.Fiber tt r k
    on_array t s v rest x r k there q c = absurd (cc)

    with_element_is : (e : VType) (s : List VType) (r : Result VType ℕ) → r ≡ Ok e → (s ≡ drop 2 f.stack) → with_element f r ≡ Ok g → record f { stack = e ∷ s } ≡ g
    with_element_is e s (Err n) q d r = absurd (cc)
    with_element_is e s (Ok e2) q d r =
        let z = ok_is (record f { stack = e2 ∷ drop 2 f.stack }) g r in
        subst (λ (u : List VType). record f { stack = e ∷ u } ≡ g) (sym d) (subst (λ (t : VType). record f { stack = t ∷ drop 2 f.stack } ≡ g) (let y : e2 ≡ e = cc in y) z)

    pub element_row : by_row p m at Element f ≡ Ok g → After (on_int vs (λ i below. on_object below h (λ n o rest. at_index o.elements i (λ k v. Goes next ls (v ∷ rest) h))))
    element_row r =
        let a = passed 3 (has_operands 2 f.stack) (rule 4 (has_room m (Null ∷ drop 2 f.stack)) (rule 5 (all_meet p (Is Int ∷ References ∷ []) f.stack) (with_element f (element f.stack)))) g r in
        let d = passed 4 (has_room m (Null ∷ drop 2 f.stack)) (rule 5 (all_meet p (Is Int ∷ References ∷ []) f.stack) (with_element f (element f.stack))) g a.1 in
        let c = passed 5 (all_meet p (Is Int ∷ References ∷ []) f.stack) (with_element f (element f.stack)) g d.1 in
        by f.stack vs refl b.stack b.there c.0 c.1
      where
        by : (ts : List VType) (ws : List Value) → f.stack ≡ ts → have_types p m of ts ws ≡ true → AreThere h ws → all_meet p (Is Int ∷ References ∷ []) ts ≡ true → with_element f (element ts) ≡ Ok g →
            After (on_int ws (λ i below. on_object below h (λ n o rest. at_index o.elements i (λ k v. Goes next ls (v ∷ rest) h))))
        by [] ws e k t a c = absurd (cc)
        by (u ∷ []) ws e k t a c = absurd (let z = (and_parts (meets p (Is Int) u) false a).1 in cc)
        by (u ∷ y ∷ s) [] e k t a c = absurd (cc)
        by (u ∷ y ∷ s) (v ∷ []) e k t a c = absurd (let z = (and_parts (has_type p m of u v) false k).1 in cc)
        by (u ∷ y ∷ s) (v ∷ z ∷ rest) e k t a c =
            let ks = and_parts (has_type p m of u v) (has_type p m of y z && have_types p m of s rest) k in
            let k2 = and_parts (has_type p m of y z) (have_types p m of s rest) ks.1 in
            let as1 = and_parts (meets p (Is Int) u) (meets p References y && true) a in
            let a2 = and_parts (meets p References y) true as1.1 in
            let is = met_int p order m of h heap live at next f g ls vs u as1.0 in
            int_is p order m of h heap After (λ c. tt) v (subst (λ (q : VType). has_type p m of q v ≡ true) is ks.0) (λ i. on_object (z ∷ rest) h (λ n o rest. at_index o.elements i (λ k v. Goes next ls (v ∷ rest) h)))
            (λ x. on_array y s z rest x a2.0 k2.0 t.1.0 k2.1 (λ e1 q. with_element_is e1 s (element (u ∷ y ∷ s)) (element_same u y s ∙ q) (sym (ap (drop 2) e)) c))
          where
            element_same : (u y : VType) (s : List VType) → element (u ∷ y ∷ s) ≡ element (Int ∷ y ∷ s)
            element_same u Null s = refl
            element_same u (Object ty) s = refl
            element_same u Top s = refl
            element_same u Int s = refl
            element_same u Long s = refl
            element_same u UninitThis s = refl
            element_same u (Uninit q) s = refl

    -- ---- `Sys.take`

    take_of : (k : ClassId) (ts : List VType) (v : Value) (rest : List Value) (x : ℤ) → has_type p m of (Object (record { dims = 1; base = base.Class k })) v ≡ true → IsThere h v → have_types p m of ts rest ≡ true →
        EffectFits p m of live next ls h (edges i next) (record f { stack = Object (record { dims = 0; base = base.Class k }) ∷ ts }) (as_object v h (λ n o. at_index o.elements x (λ j y. Goes next ls (y ∷ rest) (insert h n (record o { elements = slice_set o.elements j value.Null })))))
    take_of k ts v rest x e t q = by v e t
      where
        arr : Ty
        arr = record { dims = 1; base = base.Class k }

        by : (v : Value) → has_type p m of (Object (record { dims = 1; base = base.Class k })) v ≡ true → IsThere h v →
            EffectFits p m of live next ls h (edges i next) (record f { stack = Object (record { dims = 0; base = base.Class k }) ∷ ts }) (as_object v h (λ n o. at_index o.elements x (λ j y. Goes next ls (y ∷ rest) (insert h n (record o { elements = slice_set o.elements j value.Null })))))
        by value.Null e t = tt
        by (value.Int n) e t = absurd (cc)
        by (value.Long n) e t = absurd (cc)
        by (value.Text n) e t = absurd (not_array p order m of (record { dims = 1; base = base.Class k }) (value.Text n) refl e)
        by (value.Box n) e t = absurd (not_array p order m of (record { dims = 1; base = base.Class k }) (value.Box n) refl e)
        by value.Fiber e t = absurd (not_array p order m of (record { dims = 1; base = base.Class k }) value.Fiber refl e)
        by (value.Ref n) e t =
            let is : fits_type p t.0.class (record { dims = 1; base = base.Class k }) ≡ true = subst (λ (o : Option Ty). is_of p o (record { dims = 1; base = base.Class k }) ≡ true) (heap.classes n t.0 t.1) e in
            let d = parts t.0.class.dims t.0.class.base (references_below p order m of t.0.class (record { dims = 1; base = base.Class k }) refl is) in
            subst (λ (z : Option HeapObject). EffectFits p m of live next ls h (edges i next) (record f { stack = Object (record { dims = 0; base = base.Class k }) ∷ ts }) (with_some z (λ o. at_index o.elements x (λ j y. Goes next ls (y ∷ rest) (insert h n (record o { elements = slice_set o.elements j value.Null })))))) (sym t.1)
            (index_is p order m of h heap (λ z. EffectFits p m of live next ls h (edges i next) (record f { stack = Object (record { dims = 0; base = base.Class k }) ∷ ts }) z) (λ c. tt) t.0.elements x _ (λ j y g1.
            writing p order m of h heap live at next f g ls vs i b w on (Object (record { dims = 0; base = base.Class k }) ∷ ts) (y ∷ rest) n t.0 (record t.0 { elements = slice_set t.0.elements j value.Null })
            (and_from (has_type p m of (Object (record { dims = 0; base = base.Class k })) y) (have_types p m of ts rest)
            (element_typed t.0.class.dims 1 t.0.class.base (base.Class k) refl is y (λ q z. all_at p order of heap.proper (is_value_of p of (record { dims = q; base = t.0.class.base })) t.0.elements j y (elements_fit p order of heap.proper t.0 q z (heap.objects n t.0 t.1)) g1)) q)
            t.1 refl
            (with_elements p order of heap.proper t.0 d.0 (slice_set t.0.elements j value.Null) d.1 (heap.objects n t.0 t.1)
            (all_set p order of heap.proper (is_value_of p of (record { dims = d.0; base = t.0.class.base })) t.0.elements j value.Null (elements_fit p order of heap.proper t.0 d.0 d.1 (heap.objects n t.0 t.1))
            (value_of_typed p order m of h heap live at next f g ls vs i b w on (record { dims = d.0; base = t.0.class.base }) value.Null d.2 refl)))))

    pub take_row : (k : ClassId) (ts : List VType) → Taken p order m of h (Is Int ∷ Is (Object (record { dims = 1; base = base.Class k })) ∷ []) ts vs →
        EffectFits p m of live next ls h (edges i next) (record f { stack = Object (record { dims = 0; base = base.Class k }) ∷ ts })
        (on_int vs (λ i below. on_object below h (λ n o rest. at_index o.elements i (λ j y. Goes next ls (y ∷ rest) (insert h n (record o { elements = slice_set o.elements j value.Null }))))))
    take_row k ts t = int_took p order m of h heap (λ z. EffectFits p m of live next ls h (edges i next) (record f { stack = Object (record { dims = 0; base = base.Class k }) ∷ ts }) z) (λ c. tt) (Is (Object (record { dims = 1; base = base.Class k })) ∷ []) ts vs t _ (λ x below u.
        value_took p order m of h heap (λ z. EffectFits p m of live next ls h (edges i next) (record f { stack = Object (record { dims = 0; base = base.Class k }) ∷ ts }) z) (λ c. tt) (Is (Object (record { dims = 1; base = base.Class k }))) [] ts below u (λ v rest. as_object v h (λ n o. at_index o.elements x (λ j y. Goes next ls (y ∷ rest) (insert h n (record o { elements = slice_set o.elements j value.Null }))))) (λ v e there rest q.
        take_of k ts v rest x e there q))
