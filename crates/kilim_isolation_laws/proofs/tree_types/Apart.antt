-- No field stands twice among those of an object.
use Rattle.std.proofs.Common.{◌≡◌, ◌⊎◌, inl, inr, ℕ, suc, ◌+◌, ◌≤◌, Bool, true, false, cond, eqb, List, [], ◌∷◌, ◌++◌, length, map, reverse, filter, Option, Some, None, refl, sym, ap, subst, ◌∙◌, arith}
use Rattle.std.specs.Prelude.{◌&&◌, slice_get}
use Rattle.std.specs.List.{AllByRecursion, IsDistinct, flat_map}
use Rattle.std.specs.Str.{bytes_eq}
use Rattle.std.proofs.lemmas.Bool.{and_parts, eq-eqb}
use Rattle.std.proofs.lemmas.Grind.{flat_map-append}
use Rattle.std.proofs.lemmas.List.{reverse-append}
use Rattle.kilim_program.specs.declared.class.Class.{Class}
use Rattle.kilim_program.specs.declared.class.Field.{Field}
use Rattle.kilim_program.specs.declared.names.ClassId.{ClassId}
use Rattle.kilim_program.specs.declared.names.FieldId.{FieldId}
use Rattle.kilim_program.specs.Program.{Program}
use Rattle.kilim_program.specs.BuiltIn.{class_id}
use Rattle.kilim_program.specs.Names.{class_at, field_of, fields_of, line_of}
use Rattle.kilim_program.specs.Keeps.{Keeps, members_are_owned, owned_from}
use Rattle.kilim_program.specs.Members.{is_instance_field, object_fields}
use Rattle.kilim_lemmas.proofs.Texts.{text_is}
use Rattle.kilim_type_laws.proofs.members.ClassMethods.{IsAmong, owner_is}
use Rattle.kilim_type_laws.proofs.members.Through.{distinct, each_at}

-- ---- lists in which nothing stands twice

abbrev pub AreApart : {A : Type 0} → List A → Type 0
AreApart [] = Unit {0}
AreApart (x ∷ xs) = (IsAmong x xs → ⊥) × AreApart xs

among_either : {A : Type 0} (x : A) (xs ys : List A) → IsAmong x (xs ++ ys) → IsAmong x xs ⊎ IsAmong x ys
among_either x [] ys i = inr i
among_either x (z ∷ xs) ys (inl e) = inl (inl e)
among_either x (z ∷ xs) ys (inr i) = elim (among_either x xs ys i) [ inl j ↦ inl (inr j) | inr j ↦ inr j ]

apart_both : {A : Type 0} (xs ys : List A) → AreApart xs → AreApart ys → ((x : A) → IsAmong x xs → IsAmong x ys → ⊥) → AreApart (xs ++ ys)
apart_both [] ys a b none = b
apart_both (x ∷ xs) ys a b none =
    (λ i. elim (among_either x xs ys i) [ inl j ↦ a.0 j | inr j ↦ none x (inl refl) j ], apart_both xs ys a.1 b (λ y i j. none y (inr i) j))

among_filter : {A : Type 0} (keep : A → Bool) (x : A) (xs : List A) → IsAmong x (filter keep xs) → IsAmong x xs
among_filter keep x [] i = i
among_filter {A} keep x (y ∷ xs) i = by (keep y) i (λ j. among_filter keep x xs j)
  where
    by : (z : Bool) → IsAmong x (cond z (y ∷ filter keep xs) (filter keep xs)) → (IsAmong x (filter keep xs) → IsAmong x xs) → (x ≡ y) ⊎ IsAmong x xs
    by true (inl e) again = inl e
    by true (inr j) again = inr (again j)
    by false j again = inr (again j)

apart_filter : {A : Type 0} (keep : A → Bool) (xs : List A) → AreApart xs → AreApart (filter keep xs)
apart_filter keep [] a = tt
apart_filter {A} keep (x ∷ xs) a = by (keep x) (apart_filter keep xs a.1)
  where
    by : (z : Bool) → AreApart (filter keep xs) → AreApart (cond z (x ∷ filter keep xs) (filter keep xs))
    by true b = (λ i. a.0 (among_filter keep x xs i), b)
    by false b = b

-- ---- the fields of classes

among_flat : (f : ClassId → List FieldId) (ds : List ClassId) (x : FieldId) → IsAmong x (flat_map f (reverse ds)) → (d : ClassId) × IsAmong d ds × IsAmong x (f d)
among_flat f [] x i = absurd i
among_flat f (d ∷ ds) x i = by (among_either x (flat_map f (reverse ds)) (f d ++ []) (subst (λ (ys : List FieldId). IsAmong x ys) (ap (flat_map f) (reverse-append (d ∷ []) ds) ∙ flat_map-append f (reverse ds) (d ∷ [])) i)) (λ j. among_flat f ds x j)
  where
    by : IsAmong x (flat_map f (reverse ds)) ⊎ IsAmong x (f d ++ []) → (IsAmong x (flat_map f (reverse ds)) → (e : ClassId) × IsAmong e ds × IsAmong x (f e)) → (e : ClassId) × IsAmong e (d ∷ ds) × IsAmong x (f e)
    by (inl j) again = let r = again j in (r.0, inr r.1, r.2)
    by (inr j) again = elim (among_either x (f d) [] j) [ inl k ↦ (d, inl refl, k) | inr k ↦ absurd k ]

apart_flat : (f : ClassId → List FieldId) (ds : List ClassId) → AreApart ds → ((d : ClassId) → AreApart (f d)) → ((d e : ClassId) (x : FieldId) → IsAmong x (f d) → IsAmong x (f e) → d ≡ e) → AreApart (flat_map f (reverse ds))
apart_flat f [] a each one = tt
apart_flat f (d ∷ ds) a each one =
    subst (λ (ys : List FieldId). AreApart ys) (sym (ap (flat_map f) (reverse-append (d ∷ []) ds) ∙ flat_map-append f (reverse ds) (d ∷ [])))
    (apart_both (flat_map f (reverse ds)) (f d ++ []) (apart_flat f ds a.1 each one) (apart_both (f d) [] (each d) tt (λ x i j. j))
    (λ x i j. let r = among_flat f ds x i in a.0 (subst (λ (e : ClassId). IsAmong e ds) (one r.0 d x r.2 (front x j)) r.1)))
  where
    front : (x : FieldId) → IsAmong x (f d ++ []) → IsAmong x (f d)
    front x j = elim (among_either x (f d) [] j) [ inl k ↦ k | inr k ↦ absurd k ]

from_here : {A : Type 0} (owner : A → ClassId) (c : ClassId) (xs : List A) (n j : ℕ) → IsAmong j (owned_from owner c n xs) → n ≤ j
from_here owner c xs n j i = let r = owner_is owner c xs n j i in let e = r.2 in omega (arith, e)

owned_apart : {A : Type 0} (owner : A → ClassId) (c : ClassId) (xs : List A) (n : ℕ) → AreApart (owned_from owner c n xs)
owned_apart owner c [] n = tt
owned_apart {A} owner c (x ∷ xs) n = by (eqb (owner x).0 c.0) (owned_apart owner c xs (suc n))
  where
    by : (z : Bool) → AreApart (owned_from owner c (suc n) xs) → AreApart (cond z (n ∷ owned_from owner c (suc n) xs) (owned_from owner c (suc n) xs))
    by true a = (λ i. let l = from_here owner c xs (suc n) n i in absurd (omega (arith, l)), a)
    by false a = a

to_numbers : (x : FieldId) (fs : List FieldId) → IsAmong x fs → IsAmong x.0 (map (λ (f : FieldId). f.0) fs)
to_numbers x [] i = absurd i
to_numbers x (f ∷ fs) (inl e) = inl (ap (λ (y : FieldId). y.0) e)
to_numbers x (f ∷ fs) (inr i) = inr (to_numbers x fs i)

by_numbers : (fs : List FieldId) → AreApart (map (λ (f : FieldId). f.0) fs) → AreApart fs
by_numbers [] a = tt
by_numbers (f ∷ fs) a = (λ i. a.0 (to_numbers f fs i), by_numbers fs a.1)

apart_ids : (ds : List ClassId) → IsDistinct eqb (map (λ (d : ClassId). d.0) ds) → AreApart ds
unfolding IsDistinct
apart_ids [] a = tt
apart_ids (d ∷ ds) a = (λ i. none d ds i a.0, apart_ids ds a.1)
  where
    none : (d : ClassId) (ds : List ClassId) → IsAmong d ds → AllByRecursion (λ (y : ℕ). eqb d.0 y ≡ false) (map (λ (d : ClassId). d.0) ds) → ⊥
    none d [] i all = i
    none d (e ∷ ds) (inl s) all = let t = eq-eqb d.0 e.0 (ap (λ (c : ClassId). c.0) s) in let f = all.0 in cc
    none d (e ∷ ds) (inr i) all = none d ds i all.1

module _ (p : Program) (keeps : Keeps p) where
  numbers_of : (c : ClassId) (class : Class) → class_at p c ≡ Some class → map (λ (f : FieldId). f.0) class.fields ≡ owned_from (λ (f : Field). f.owner) c 0 p.fields
  unfolding members_are_owned
  numbers_of c class at =
      let one = each_at (λ (k : ClassId) (class : Class). bytes_eq (map (λ (f : FieldId). f.0) class.fields) (owned_from (λ (f : Field). f.owner) k 0 p.fields) && bytes_eq (map (λ m. m.0) class.methods) (owned_from (λ m. m.owner) k 0 p.methods)) 0 p.classes c.0 class keeps.members at in
      let number : 0 + c.0 ≡ c.0 = omega arith in
      let same = text_is (map (λ (f : FieldId). f.0) class.fields) (owned_from (λ (f : Field). f.owner) (class_id (0 + c.0)) 0 p.fields) (and_parts (bytes_eq (map (λ (f : FieldId). f.0) class.fields) (owned_from (λ (f : Field). f.owner) (class_id (0 + c.0)) 0 p.fields)) _ one).0 in
      same ∙ ap (λ (k : ℕ). owned_from (λ (f : Field). f.owner) (class_id k) 0 p.fields) number

  class_apart : (d : ClassId) → AreApart (fields_of p d)
  class_apart d = by (class_at p d) refl
    where
      by : (o : Option Class) → class_at p d ≡ o → AreApart (elim o [ None ↦ [] | Some class ↦ class.fields ])
      by None at = tt
      by (Some class) at = by_numbers class.fields (subst (λ (ns : List ℕ). AreApart ns) (sym (numbers_of d class at)) (owned_apart (λ (f : Field). f.owner) d p.fields 0))

  owner_of : (d : ClassId) (x : FieldId) → IsAmong x (fields_of p d) → (f : Field) × (field_of p x ≡ Some f) × (f.owner ≡ d)
  owner_of d x i = by (class_at p d) refl i
    where
      by : (o : Option Class) → class_at p d ≡ o → IsAmong x (elim o [ None ↦ [] | Some class ↦ class.fields ]) → (f : Field) × (field_of p x ≡ Some f) × (f.owner ≡ d)
      by None at i = absurd i
      by (Some class) at i =
          let j = subst (λ (ns : List ℕ). IsAmong x.0 ns) (numbers_of d class at) (to_numbers x class.fields i) in
          let r = owner_is (λ (f : Field). f.owner) d p.fields 0 x.0 j in
          let number : r.0 ≡ x.0 = (let e = r.2 in omega (arith, e)) in
          (r.1, ap (λ (k : ℕ). slice_get p.fields k) (sym number) ∙ r.3, ap (λ (k : ℕ). class_id k) r.4)

  one_owner : (d e : ClassId) (x : FieldId) → IsAmong x (fields_of p d) → IsAmong x (fields_of p e) → d ≡ e
  one_owner d e x i j =
      let a = owner_of d x i in
      let b = owner_of e x j in
      let s : Some a.0 ≡ Some b.0 = sym a.1 ∙ b.1 in
      let t : a.0 ≡ b.0 = cc in
      sym a.2 ∙ (ap (λ (f : Field). f.owner) t ∙ b.2)

  pub fields_apart : (c : ClassId) → AreApart (object_fields p c)
  fields_apart c =
      apart_filter (is_instance_field p) (flat_map (fields_of p) (reverse (line_of p c)))
      (apart_flat (fields_of p) (line_of p c) (apart_ids (line_of p c) (distinct p keeps (length p.classes) c (omega arith))) class_apart one_owner)
