-- Values of declared types, and objects that are written.
use Rattle.std.proofs.Common.{◌≡◌, ◌⊎◌, inl, inr, ℕ, zero, suc, Bool, true, false, eqb, List, [], ◌∷◌, replicate, Option, Some, None, refl, sym, ap, subst, ◌∙◌, arith}
use Rattle.std.specs.Prelude.{◌&&◌, slice_get, slice_set, codes}
use Rattle.std.specs.FinMap.{get, insert}
use Rattle.std.specs.List.{list_all}
use Rattle.std.proofs.lemmas.Bool.{and_parts, and_from, ne_eqb}
use Rattle.std.proofs.lemmas.Bool.Decides.{eqb_tells}
use Rattle.kilim_program.specs.declared.class.Method.{Method}
use Rattle.kilim_program.specs.declared.names.ClassId.{ClassId}
use Rattle.kilim_program.specs.declared.ty.Base.{Base}
use Rattle.kilim_program.specs.declared.ty.Base.TheVariants as base
use Rattle.kilim_program.specs.declared.ty.Ty.{Ty}
use Rattle.kilim_run_state.specs.declared.value.Object.{Object as HeapObject}
use Rattle.kilim_program.specs.declared.value.Value.{Value}
use Rattle.kilim_program.specs.declared.value.Value.TheVariants as value
use Rattle.kilim_program.specs.declared.verified.VType.TheVariants.{Int, Long, Object}
use Rattle.kilim_program.specs.Program.{Program}
use Rattle.kilim_run_state.specs.Machine.{Objects}
use Rattle.kilim_program.specs.Names.{class_named}
use Rattle.kilim_program.specs.Members.{named_class}
use Rattle.kilim_program.specs.Fits.{fits_type, type_assignable}
use Rattle.kilim_type_spec.specs.Step.{vtype, dims_vtype}
use Rattle.kilim_type_sound.specs.Fits.{Classes, is_of, has_type, int_fits, is_long_base, is_value_of, ContentFits, ObjectFits, HeapFits}
use Rattle.kilim_program.specs.Lengths.{is_reference_type}
use Rattle.kilim_program.specs.Fits.{is_reference_base}
use Rattle.kilim_type_sound.specs.Facts.{Ordered}
use Rattle.kilim_type_sound.proofs.Maps.{put_there, put_other}

abbrev pub is_int_base : Base → Bool
is_int_base base.Long = false
is_int_base (base.Class c) = false
is_int_base b = true

abbrev pub base_ty : Base → Ty
base_ty b = record { dims = 0; base = b }

module _ (p : Program) (order : Ordered p) (of : Classes) (proper : (n : ℕ) (c : Ty) → of n ≡ Some c → is_reference_type c.dims c.base ≡ true) where
  -- a reference is of no primitive type
  prim_dims : (d : ℕ) (a b : Base) → is_reference_type d a ≡ true → is_reference_base b ≡ false → type_assignable p d a 0 b ≡ true → ⊥
  prim_dims zero (base.Class c) base.Bool r n e = absurd (cc)
  prim_dims zero (base.Class c) base.Byte r n e = absurd (cc)
  prim_dims zero (base.Class c) base.Char r n e = absurd (cc)
  prim_dims zero (base.Class c) base.Short r n e = absurd (cc)
  prim_dims zero (base.Class c) base.Int r n e = absurd (cc)
  prim_dims zero (base.Class c) base.Long r n e = absurd (cc)
  prim_dims d a (base.Class c) r n e = absurd (cc)
  prim_dims zero a b r n e = absurd (cc)
  prim_dims (suc d) a base.Bool r n e = absurd (cc)
  prim_dims (suc d) a base.Byte r n e = absurd (cc)
  prim_dims (suc d) a base.Char r n e = absurd (cc)
  prim_dims (suc d) a base.Short r n e = absurd (cc)
  prim_dims (suc d) a base.Int r n e = absurd (cc)
  prim_dims (suc d) a base.Long r n e = absurd (cc)

  no_prim : (o : Option Ty) (ty : Ty) → ((c : Ty) → o ≡ Some c → is_reference_type c.dims c.base ≡ true) → ty.dims ≡ 0 → is_reference_base ty.base ≡ false → is_of p o ty ≡ true → ⊥
  unfolding fits_type
  no_prim None ty r z n e = absurd (cc)
  no_prim (Some c) ty r z n e = prim_dims c.dims c.base ty.base (r c refl) n (subst (λ (d : ℕ). type_assignable p c.dims c.base d ty.base ≡ true) z e)

  named_proper : (o : Option ClassId) (c : Ty) → named_class o ≡ Some c → is_reference_type c.dims c.base ≡ true
  named_proper None c e = absurd (cc)
  named_proper (Some d) c e = subst (λ (z : Ty). is_reference_type z.dims z.base ≡ true) (let s : record { dims = 0; base = base.Class d } ≡ c = cc in s) refl

  long_or_class : (b : Base) → is_int_base b ≡ true → (is_long_base b ≡ false) × (is_reference_base b ≡ false)
  long_or_class base.Bool e = (refl, refl)
  long_or_class base.Byte e = (refl, refl)
  long_or_class base.Char e = (refl, refl)
  long_or_class base.Short e = (refl, refl)
  long_or_class base.Int e = (refl, refl)
  long_or_class base.Long e = absurd (cc)
  long_or_class (base.Class c) e = absurd (cc)

  pub int_value : (m : Method) (b : Base) (v : Value) → is_int_base b ≡ true → is_value_of p of (base_ty b) v ≡ true → has_type p m of Int v ≡ true
  int_value m b (value.Int x) i e = refl
  int_value m b (value.Long x) i e = absurd (let z = (long_or_class b i).0 in cc)
  int_value m b value.Null i e = absurd (let z = (long_or_class b i).1 in cc)
  int_value m b (value.Ref n) i e = absurd (no_prim (of n) (base_ty b) (proper n) refl (long_or_class b i).1 e)
  int_value m b (value.Text u) i e = absurd (no_prim (named_class (class_named p (codes "java/lang/String"))) (base_ty b) (named_proper _) refl (long_or_class b i).1 e)
  int_value m b (value.Box x) i e = absurd (no_prim (named_class (class_named p (codes "kilim/Mailbox"))) (base_ty b) (named_proper _) refl (long_or_class b i).1 e)
  int_value m b value.Fiber i e = absurd (no_prim (named_class (class_named p (codes "kilim/Fiber"))) (base_ty b) (named_proper _) refl (long_or_class b i).1 e)

  pub long_value : (m : Method) (v : Value) → is_value_of p of (base_ty base.Long) v ≡ true → has_type p m of Long v ≡ true
  long_value m (value.Long x) e = refl
  long_value m (value.Int x) e = absurd (cc)
  long_value m value.Null e = absurd (cc)
  long_value m (value.Ref n) e = absurd (no_prim (of n) (base_ty base.Long) (proper n) refl refl e)
  long_value m (value.Text u) e = absurd (no_prim (named_class (class_named p (codes "java/lang/String"))) (base_ty base.Long) (named_proper _) refl refl e)
  long_value m (value.Box x) e = absurd (no_prim (named_class (class_named p (codes "kilim/Mailbox"))) (base_ty base.Long) (named_proper _) refl refl e)
  long_value m value.Fiber e = absurd (no_prim (named_class (class_named p (codes "kilim/Fiber"))) (base_ty base.Long) (named_proper _) refl refl e)

  -- a value of a reference type
  pub object_value : (m : Method) (d : ℕ) (b : Base) (v : Value) → is_reference_type d b ≡ true → is_value_of p of (record { dims = d; base = b }) v ≡ true → has_type p m of (Object (record { dims = d; base = b })) v ≡ true
  object_value m zero (base.Class c) (value.Int x) r e = absurd (cc)
  object_value m zero (base.Class c) (value.Long x) r e = absurd (cc)
  object_value m (suc d) b (value.Int x) r e = absurd (no_zero d (int_fits b x) e)
    where
      no_zero : (d : ℕ) (c : Bool) → (eqb (suc d) 0 && c) ≡ true → ⊥
      no_zero d c e = let z = ne_eqb (suc d) 0 (λ q. omega (arith, q)) in let y = (and_parts (eqb (suc d) 0) c e).0 in absurd (cc)
  object_value m (suc d) b (value.Long x) r e = absurd (no_zero d (is_long_base b) e)
    where
      no_zero : (d : ℕ) (c : Bool) → (eqb (suc d) 0 && c) ≡ true → ⊥
      no_zero d c e = let z = ne_eqb (suc d) 0 (λ q. omega (arith, q)) in let y = (and_parts (eqb (suc d) 0) c e).0 in absurd (cc)
  object_value m d b value.Null r e = refl
  object_value m d b (value.Ref n) r e = e
  object_value m d b (value.Text u) r e = e
  object_value m d b (value.Box x) r e = e
  object_value m d b value.Fiber r e = e
  object_value m zero b v r e = absurd (cc)

  -- a value of a declared type has its verification type
  by_dims : (m : Method) (d : ℕ) (b : Base) (v : Value) → is_value_of p of (record { dims = d; base = b }) v ≡ true → has_type p m of (dims_vtype (record { dims = d; base = b }) d) v ≡ true
  by_dims m (suc d) b v e = object_value m (suc d) b v refl e
  by_dims m zero base.Long v e = long_value m v e
  by_dims m zero (base.Class c) v e = object_value m zero (base.Class c) v refl e
  by_dims m zero base.Bool v e = int_value m base.Bool v refl e
  by_dims m zero base.Byte v e = int_value m base.Byte v refl e
  by_dims m zero base.Char v e = int_value m base.Char v refl e
  by_dims m zero base.Short v e = int_value m base.Short v refl e
  by_dims m zero base.Int v e = int_value m base.Int v refl e

  pub value_typed : (m : Method) (ty : Ty) (v : Value) → is_value_of p of ty v ≡ true → has_type p m of (vtype ty) v ≡ true
  value_typed m ty v e = by_dims m ty.dims ty.base v e

  -- ---- objects

  pub all_at : {A : Type 0} (test : A → Bool) (xs : List A) (k : ℕ) (x : A) → list_all test xs ≡ true → slice_get xs k ≡ Some x → test x ≡ true
  all_at test [] k x a e = absurd (cc)
  all_at test (y ∷ xs) zero x a e = subst (λ z. test z ≡ true) (let s : y ≡ x = cc in s) (and_parts (test y) (list_all test xs) a).0
  all_at test (y ∷ xs) (suc k) x a e = all_at test xs k x (and_parts (test y) (list_all test xs) a).1 e

  pub all_set : {A : Type 0} (test : A → Bool) (xs : List A) (k : ℕ) (x : A) → list_all test xs ≡ true → test x ≡ true → list_all test (slice_set xs k x) ≡ true
  all_set test [] k x a e = a
  all_set test (y ∷ xs) zero x a e = and_from (test x) (list_all test xs) e (and_parts (test y) (list_all test xs) a).1
  all_set test (y ∷ xs) (suc k) x a e = let as1 = and_parts (test y) (list_all test xs) a in and_from (test y) (list_all test (slice_set xs k x)) as1.0 (all_set test xs k x as1.1 e)

  pub all_same : {A : Type 0} (test : A → Bool) (n : ℕ) (x : A) → test x ≡ true → list_all test (replicate n x) ≡ true
  all_same test zero x e = refl
  all_same test (suc n) x e = and_from (test x) (list_all test (replicate n x)) e (all_same test n x e)

  pub elements_fit : (o : HeapObject) (d : ℕ) → o.class.dims ≡ suc d → ObjectFits p of o → list_all (is_value_of p of (record { dims = d; base = o.class.base })) o.elements ≡ true
  elements_fit o d e f = (subst (λ (z : ℕ). ContentFits p of z o.class.base o) e f).1

  pub with_elements : (o : HeapObject) (d : ℕ) (es : List Value) → o.class.dims ≡ suc d → ObjectFits p of o → list_all (is_value_of p of (record { dims = d; base = o.class.base })) es ≡ true → ObjectFits p of (record o { elements = es })
  with_elements o d es e f a = subst (λ (z : ℕ). ContentFits p of z o.class.base (record o { elements = es })) (sym e) ((subst (λ (z : ℕ). ContentFits p of z o.class.base o) e f).0, a, (subst (λ (z : ℕ). ContentFits p of z o.class.base o) e f).2)

pub written : (p : Program) (of : Classes) (h : Objects) → HeapFits p of h → (n : ℕ) (o q : HeapObject) → get h n ≡ Some o → q.class ≡ o.class → ObjectFits p of q → HeapFits p of (insert h n q)
written p of h heap n o q e same fit = record { proper = heap.proper; classes = classes; objects = objects }
  where
    both : (k : ℕ) (x : HeapObject) → get (insert h n q) k ≡ Some x → ((n ≡ k) × (q ≡ x)) ⊎ (get h k ≡ Some x)
    both k x g = elim (eqb_tells n k) [
      | inl z ↦ inl (z.1, let a = put_there h n q in let b = subst (λ (j : ℕ). get (insert h n q) j ≡ Some x) (sym z.1) g in let s : q ≡ x = cc in s)
      | inr z ↦ inr (sym (put_other h n q k (λ w. z.1 (sym w))) ∙ g)
    ]

    classes : (k : ℕ) (x : HeapObject) → get (insert h n q) k ≡ Some x → of k ≡ Some x.class
    classes k x g = elim (both k x g) [
      | inl z ↦ subst (λ (j : ℕ). of j ≡ Some x.class) z.0 (subst (λ (y : HeapObject). of n ≡ Some y.class) z.1 (heap.classes n o e ∙ ap Some (sym same)))
      | inr z ↦ heap.classes k x z
    ]

    objects : (k : ℕ) (x : HeapObject) → get (insert h n q) k ≡ Some x → ObjectFits p of x
    objects k x g = elim (both k x g) [ inl z ↦ subst (λ (y : HeapObject). ObjectFits p of y) z.1 fit | inr z ↦ heap.objects k x z ]
