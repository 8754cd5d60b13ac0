-- The heap of objects, seen for trees: a place is set, a new object comes.
use Rattle.std.proofs.Common.{◌≡◌, ℕ, zero, suc, ◌+◌, ◌*◌, ◌<◌, ◌==◌, Bool, true, false, true≢false, cond, eqb, List, [], ◌∷◌, Option, Some, None, refl, sym, ap, subst, ◌∙◌, ◌≢◌, ◌⊎◌, inl, inr, arith}
use Rattle.std.specs.Prelude.{slice_get, slice_set}
use Rattle.std.specs.FinMap.{FinMap, get, insert, get-insert, nat_cmp-IsAntisymmetric}
use Rattle.std.proofs.lemmas.Cmp.{nat_cmp_total}
use Rattle.std.specs.Ordering.{nat_cmp, eq_by_cmp, is_eq}
use Rattle.std.specs.Cmp.{nat_cmp_is}
use Rattle.std.specs.declared.cmp.Ordering.{Ordering}
use Rattle.std.specs.declared.cmp.Ordering.TheVariants.{Less, Equal, Greater}
use Rattle.kilim_program.specs.declared.names.FieldId.{FieldId}
use Rattle.kilim_run_state.specs.declared.value.Object.{Object}
use Rattle.kilim_program.specs.declared.value.Value.{Value}
use Rattle.kilim_program.specs.Program.{Program}
use Rattle.kilim_run_state.specs.Machine.{Objects}
use Rattle.kilim_run_state.specs.Shapes.{field_in}
use Rattle.kilim_run_machine.specs.Does.{with_field, element_type}
use Rattle.kilim_isolation_laws.specs.forest.Heap.{Heap, IsForest, IsSet_at, IsMore_objects}
use Rattle.kilim_isolation_laws.specs.forest.Relation.{is_gone, Named, RespectsAll, Frames}
use Rattle.kilim_isolation_laws.proofs.forest.Forests.{ends_fewer}
use Rattle.kilim_isolation_laws.proofs.forest.Grow.{more_relates}
use Rattle.kilim_isolation_laws.proofs.forest.Frames.{respects_kept, more_way}
use Rattle.kilim_isolation_laws.proofs.forest.Store.{both_ways, is_same, is_not_same}
use Rattle.kilim_isolation_laws.specs.graph_rows.Holds.{Sort, Anything, Wide, Word, Own, Tree, object_sort, field_sort, type_sort, IsOf, Fits, unnamed, named_sort, ObjectFits, HeapFits, half, tree_held, held_at, is_tree_sort, is_tree_object, trees, SlotFits}
use Rattle.kilim_isolation_laws.specs.forest.Laws.{IsPlace}

-- ---- finite maps

ties_self : (k : ℕ) → eq_by_cmp nat_cmp k k ≡ true
ties_self k = ap is_eq (sym (nat_cmp_is k k Equal refl))

ties_not : (q k : ℕ) → q ≢ k → (b : Ordering) → nat_cmp q k ≡ b → is_eq b ≡ false
ties_not q k n Less e = refl
ties_not q k n Equal e = absurd (n (nat_cmp-IsAntisymmetric q k e))
ties_not q k n Greater e = refl

module _ {X : Type 0} where
  pub put_there : (m : FinMap nat_cmp X) (k : ℕ) (v : X) → get (insert m k v) k ≡ Some v
  put_there m k v = get-insert nat_cmp_total m k v k ∙ ap (λ (b : Bool). cond b (Some v) (get m k)) (ties_self k)

  pub put_other : (m : FinMap nat_cmp X) (k : ℕ) (v : X) (q : ℕ) → q ≢ k → get (insert m k v) q ≡ get m q
  put_other m k v q n = get-insert nat_cmp_total m k v q ∙ ap (λ (b : Bool). cond b (Some v) (get m q)) (ties_not q k n (nat_cmp q k) refl)

-- ---- places

pub half_even : (f : ℕ) → half (2 * f) ≡ (false, f)
half_even zero = refl
half_even (suc f) =
    let e : 2 * suc f ≡ suc (suc (2 * f)) = omega arith in
    ap half e ∙ ap (λ z. (z.0, suc z.1)) (half_even f)

pub half_odd : (k : ℕ) → half (2 * k + 1) ≡ (true, k)
half_odd zero = refl
half_odd (suc k) =
    let e : 2 * suc k + 1 ≡ suc (suc (2 * k + 1)) = omega arith in
    ap half e ∙ ap (λ z. (z.0, suc z.1)) (half_odd k)

pub place_is : (i : ℕ) → (i ≡ 2 * (half i).1) × ((half i).0 ≡ false) ⊎ (i ≡ 2 * (half i).1 + 1) × ((half i).0 ≡ true)
place_is zero = inl (refl, refl)
place_is (suc zero) = inr (refl, refl)
place_is (suc (suc i)) = elim (place_is i) [
  | inl w ↦ (let e = w.0 in inl (omega arith, w.1))
  | inr w ↦ (let e = w.0 in inr (omega arith, w.1))
]

-- ---- fields and elements

pub field_there : (es : List (FieldId × Value)) (f : FieldId) (old v : Value) → field_in es f ≡ Some old → field_in (with_field es f v) f ≡ Some v
field_there [] f old v e = absurd (cc)
field_there (x ∷ es) f old v e = by (x.0.0 == f.0) refl (λ w. field_there es f old v w) e
  where
    by : (b : Bool) → (x.0.0 == f.0) ≡ b → (field_in es f ≡ Some old → field_in (with_field es f v) f ≡ Some v) → cond b (Some x.1) (field_in es f) ≡ Some old →
        field_in (cond b ((x.0, v) ∷ es) (x ∷ with_field es f v)) f ≡ Some v
    by true is more w = ap (λ c. cond c (Some v) (field_in es f)) is
    by false is more w = ap (λ c. cond c (Some x.1) (field_in (with_field es f v) f)) is ∙ more w

pub field_other : (es : List (FieldId × Value)) (f : FieldId) (v : Value) (k : FieldId) → (k.0 ≡ f.0 → ⊥) → field_in (with_field es f v) k ≡ field_in es k
field_other [] f v k not = refl
field_other (x ∷ es) f v k not = elim (both_ways (x.0.0 == f.0)) [
  | inl it ↦
      let other : (x.0.0 == k.0) ≡ false = other_key (is_same x.0.0 f.0 it) in
      ap (λ b. field_in (cond b ((x.0, v) ∷ es) (x ∷ with_field es f v)) k) it ∙ ap (λ b. cond b (Some v) (field_in es k)) other ∙ sym (ap (λ b. cond b (Some x.1) (field_in es k)) other)
  | inr no_it ↦
      ap (λ b. field_in (cond b ((x.0, v) ∷ es) (x ∷ with_field es f v)) k) no_it ∙ ap (λ z. cond (x.0.0 == k.0) (Some x.1) z) (field_other es f v k not)
]
  where
    other_key : x.0.0 ≡ f.0 → (x.0.0 == k.0) ≡ false
    other_key e = elim (both_ways (x.0.0 == k.0)) [ inl w ↦ absurd (not (sym (is_same x.0.0 k.0 w) ∙ e)) | inr w ↦ w ]

pub element_there : (vs : List Value) (k : ℕ) (old v : Value) → slice_get vs k ≡ Some old → slice_get (slice_set vs k v) k ≡ Some v
element_there [] k old v e = absurd (cc)
element_there (x ∷ vs) zero old v e = refl
element_there (x ∷ vs) (suc k) old v e = element_there vs k old v e

pub element_other : (vs : List Value) (k : ℕ) (v : Value) (j : ℕ) → (j ≡ k → ⊥) → slice_get (slice_set vs k v) j ≡ slice_get vs j
element_other [] k v j not = refl
element_other (x ∷ vs) zero v zero not = absurd (not refl)
element_other (x ∷ vs) zero v (suc j) not = refl
element_other (x ∷ vs) (suc k) v zero not = refl
element_other (x ∷ vs) (suc k) v (suc j) not = element_other vs k v j (λ e. not (ap suc e))

-- ---- growing heaps

abbrev pub Grows : Program → Objects → Objects → Type 0
Grows p h h' = (o : ℕ) (s : Sort) → IsOf p h o s → IsOf p h' o s

pub fits_grow : (p : Program) (h h' : Objects) → Grows p h h' → (s : Sort) (v : Value) → Fits p h s v → Fits p h' s v
fits_grow p h h' gr Anything v f = tt
fits_grow p h h' gr Wide v f = f
fits_grow p h h' gr Word v f = f
fits_grow p h h' gr Own v f = (f.0, λ o e. gr o Own (f.1 o e))
fits_grow p h h' gr (Tree dims stuff) v f = (f.0, λ o e. gr o (Tree dims stuff) (f.1 o e))

pub object_grows : (p : Program) (h h' : Objects) → Grows p h h' → (object : Object) → ObjectFits p h object → ObjectFits p h' object
object_grows p h h' gr object o = record {
  fields = λ f v e. (fits_grow p h h' gr (field_sort p f) v (o.fields f v e).0, (o.fields f v e).1);
  elements = λ k v e. (fits_grow p h h' gr (type_sort p (element_type object.class)) v (o.elements k v e).0, (o.elements k v e).1);
}

pub slot_grows : (p : Program) (h h' : Objects) → Grows p h h' → (u u' : Named) (count count' : ℕ) → ((n : ℕ) → n < count → u'.at n ≡ u.at n) → ((n : ℕ) → n < count → n < count') →
    ((n : ℕ) → n < count → is_gone (u'.node n).standing ≡ false → is_gone (u.node n).standing ≡ false) → (s : Sort) (x : Option ℕ) (v : Value) → SlotFits p h u count s x v → SlotFits p h' u' count' s x v
slot_grows p h h' gr u u' count count' at more lives s None v f = fits_grow p h h' gr (unnamed s) v f
slot_grows p h h' gr u u' count count' at more lives s (Some n) v f = (f.0 ∙ sym (at n f.1), more n f.1, λ live. fits_grow p h h' gr (named_sort s) v (f.2 (lives n f.1 live)))

-- ---- an object is changed, and keeps its class

pub some_same : (x y : Object) → Some x ≡ Some y → x ≡ y
some_same x y e = cc

pub is_or_not : (o a : ℕ) → (o ≡ a) ⊎ (o ≢ a)
is_or_not o a = elim (both_ways (eqb o a)) [ inl e ↦ inl (is_same o a e) | inr e ↦ inr (is_not_same o a e) ]

module _ (p : Program) (h : Objects) (a : ℕ) (ob ob' : Object) (there : get h a ≡ Some ob) (class : ob'.class ≡ ob.class) where
  pub set_grows : Grows p h (insert h a ob')
  set_grows o s w = elim (is_or_not o a) [
    | inl e ↦ (ob', ap (get (insert h a ob')) e ∙ put_there h a ob', ap (object_sort p) class ∙ ap (λ z. object_sort p z.class) (some_same ob w.0 (sym there ∙ ap (get h) (sym e) ∙ w.1)) ∙ w.2)
    | inr n ↦ (w.0, put_other h a ob' o n ∙ w.1, w.2)
  ]

  pub set_fits : HeapFits p h → ObjectFits p (insert h a ob') ob' → HeapFits p (insert h a ob')
  set_fits hf of o object e = elim (is_or_not o a) [
    | inl is ↦ subst (ObjectFits p (insert h a ob')) (some_same ob' object (sym (put_there h a ob') ∙ ap (get (insert h a ob')) (sym is) ∙ e)) of
    | inr n ↦ object_grows p h (insert h a ob') set_grows object (hf o object (sym (put_other h a ob' o n) ∙ e))
  ]

  pub same_has : (o : ℕ) → (trees p (insert h a ob')).has o ≡ (trees p h).has o
  same_has o = elim (is_or_not o a) [
    | inl e ↦ ap (λ z. is_tree_object p (get (insert h a ob') z)) e ∙ ap (is_tree_object p) (put_there h a ob') ∙ ap (λ z. is_tree_sort (object_sort p z)) class ∙ sym (ap (is_tree_object p) there) ∙ ap (λ z. is_tree_object p (get h z)) (sym e)
    | inr n ↦ ap (is_tree_object p) (put_other h a ob' o n)
  ]

  to_here : (i : ℕ) → (trees p (insert h a ob')).to a i ≡ tree_held ob' (object_sort p ob.class) i
  to_here i = ap (λ z. held_at p z i) (put_there h a ob') ∙ ap (λ z. tree_held ob' (object_sort p z) i) class

  to_before : (i : ℕ) → (trees p h).to a i ≡ tree_held ob (object_sort p ob.class) i
  to_before i = ap (λ z. held_at p z i) there

  pub set_at : (place : ℕ) (value : Option ℕ) → tree_held ob' (object_sort p ob.class) place ≡ value →
      ((i : ℕ) → (i ≡ place → ⊥) → tree_held ob' (object_sort p ob.class) i ≡ tree_held ob (object_sort p ob.class) i) → IsSet_at (trees p h) (trees p (insert h a ob')) a place value
  set_at place value is others = record {
    is = to_here place ∙ is;
    others = λ o i. elim (is_or_not o a) [
      | inl e ↦ elim (is_or_not i place) [
        | inl w ↦ inl (e, w)
        | inr n ↦ inr (ap (λ z. held_at p (get (insert h a ob') z) i) e ∙ to_here i ∙ others i n ∙ sym (to_before i) ∙ ap (λ z. held_at p (get h z) i) (sym e))
      ]
      | inr n ↦ inr (ap (λ z. held_at p z i) (put_other h a ob' o n))
    ];
    same = same_has;
  }

  -- nothing that trees hold changes
  pub set_same : ((i : ℕ) → tree_held ob' (object_sort p ob.class) i ≡ tree_held ob (object_sort p ob.class) i) → (o i : ℕ) → (trees p (insert h a ob')).to o i ≡ (trees p h).to o i
  set_same same o i = elim (is_or_not o a) [
    | inl e ↦ ap (λ z. held_at p (get (insert h a ob') z) i) e ∙ to_here i ∙ same i ∙ sym (to_before i) ∙ ap (λ z. held_at p (get h z) i) (sym e)
    | inr n ↦ ap (λ z. held_at p z i) (put_other h a ob' o n)
  ]

-- ---- the same trees, and new objects that hold nothing

pub yes_or_no : (b : Bool) → (b ≡ true) ⊎ (b ≡ false)
yes_or_no true = inl refl
yes_or_no false = inr refl

pub more_frames : (h h' : Heap) → IsForest h → IsMore_objects h h' → (u : Named) (ls : List Named) → Frames IsPlace h (u ∷ ls) → Frames IsPlace h' (u ∷ ls)
more_frames h h' forest more u ls fs = (more_relates IsPlace h h' forest more u fs.0, above ls fs.1 fs.2, below ls fs.2)
  where
    above : (ks : List Named) → RespectsAll h u ks → Frames IsPlace h ks → RespectsAll h' u ks
    above [] rs f = tt
    above (k ∷ ks) rs f = (respects_kept h h' u k (more_way IsPlace h h' forest more k f.0) rs.0, above ks rs.1 f.2)

    over : (l : Named) (ks : List Named) → RespectsAll h l ks → Frames IsPlace h ks → RespectsAll h' l ks
    over l [] rs f = tt
    over l (k ∷ ks) rs f = (respects_kept h h' l k (more_way IsPlace h h' forest more k f.0) rs.0, over l ks rs.1 f.2)

    below : (ks : List Named) → Frames IsPlace h ks → Frames IsPlace h' ks
    below [] f = tt
    below (k ∷ ks) f = (more_relates IsPlace h h' forest more k f.0, over k ks f.1 f.2, below ks f.2)

module _ (h h' : Heap) (forest : IsForest h) (has : (o : ℕ) → h'.has o ≡ h.has o) (to : (o i : ℕ) → h'.to o i ≡ h.to o i) where
  pub same_more : IsMore_objects h h'
  same_more = record {
    kinds = λ o. yes_or_no (h.has o);
    there = λ o e. has o ∙ e;
    same = λ o i e. to o i;
    apart = λ o i x no e _. true≢false (sym (forest.there o i x (sym (to o i) ∙ e)).0 ∙ no);
  }

  pub same_forest : IsForest h'
  same_forest = record {
    one = λ x a b i j e f. forest.one x a b i j (sym (to a i) ∙ e) (sym (to b j) ∙ f);
    ends = λ x. ends_fewer h h' (λ o i y e. sym (to o i) ∙ e) x (forest.ends x);
    there = λ o i x e. (has o ∙ (forest.there o i x (sym (to o i) ∙ e)).0, has x ∙ (forest.there o i x (sym (to o i) ∙ e)).1);
  }

-- a new object that holds no object
module _ (h h' : Heap) (forest : IsForest h) (n : ℕ) (has : (o : ℕ) → (o ≡ n) ⊎ (h'.has o ≡ h.has o)) (no : h.has n ≡ false) (to : (o i : ℕ) → h'.to o i ≡ h.to o i) where
  pub new_more : IsMore_objects h h'
  new_more = record {
    kinds = λ o. yes_or_no (h.has o);
    there = λ o e. elim (has o) [ inl is ↦ absurd (true≢false (sym e ∙ ap h.has is ∙ no)) | inr same ↦ same ∙ e ];
    same = λ o i e. to o i;
    apart = λ o i x none e _. true≢false (sym (forest.there o i x (sym (to o i) ∙ e)).0 ∙ none);
  }

  pub new_forest : IsForest h'
  new_forest = record {
    one = λ x a b i j e f. forest.one x a b i j (sym (to a i) ∙ e) (sym (to b j) ∙ f);
    ends = λ x. ends_fewer h h' (λ o i y e. sym (to o i) ∙ e) x (forest.ends x);
    there = λ o i x e.
        let w = forest.there o i x (sym (to o i) ∙ e) in
        (new_more.there o w.0, new_more.there x w.1);
  }
