-- Methods of one name and descriptor are alike where one overrides the other, or both are one.
use Rattle.std.proofs.Common.{◌≡◌, ℕ, zero, suc, Bool, true, false, eqb, List, [], ◌∷◌, Option, Some, None, refl, sym, ap, subst, ◌∙◌}
use Rattle.std.specs.Prelude.{◌&&◌, ◌||◌, not, slice_get}
use Rattle.std.specs.List.{list_any}
use Rattle.std.specs.Str.{bytes_eq}
use Rattle.std.proofs.lemmas.Bool.{and_parts, and_from, eqb-true, eq-eqb}
use Rattle.kilim_program.specs.declared.class.Method.{Method}
use Rattle.kilim_program.specs.declared.ty.Base.{Base}
use Rattle.kilim_program.specs.declared.ty.Base.TheVariants as base
use Rattle.kilim_program.specs.declared.ty.Ty.{Ty}
use Rattle.kilim_program.specs.declared.ty.Qualifier.{Qualifier}
use Rattle.kilim_program.specs.declared.ty.Qualifier.TheVariants.{Free, Cuttable, Safe}
use Rattle.kilim_program.specs.Same.{all_differ, same_base, same_flag, same_qualifier, same_qualifiers, same_result, same_signature, same_type, same_types}
use Rattle.kilim_lemmas.proofs.Texts.{text_is, same_text}

base_is : (a b : Base) → same_base a b ≡ true → a ≡ b
base_is base.Bool base.Bool e = refl
base_is base.Byte base.Byte e = refl
base_is base.Char base.Char e = refl
base_is base.Short base.Short e = refl
base_is base.Int base.Int e = refl
base_is base.Long base.Long e = refl
base_is (base.Class a) (base.Class b) e = ap (λ (n : ℕ). base.Class (record { 0 = n })) (eqb-true a.0 b.0 e)
base_is base.Bool base.Byte e = absurd (cc)
base_is base.Bool base.Char e = absurd (cc)
base_is base.Bool base.Short e = absurd (cc)
base_is base.Bool base.Int e = absurd (cc)
base_is base.Bool base.Long e = absurd (cc)
base_is base.Bool (base.Class c) e = absurd (cc)
base_is base.Byte base.Bool e = absurd (cc)
base_is base.Byte base.Char e = absurd (cc)
base_is base.Byte base.Short e = absurd (cc)
base_is base.Byte base.Int e = absurd (cc)
base_is base.Byte base.Long e = absurd (cc)
base_is base.Byte (base.Class c) e = absurd (cc)
base_is base.Char base.Bool e = absurd (cc)
base_is base.Char base.Byte e = absurd (cc)
base_is base.Char base.Short e = absurd (cc)
base_is base.Char base.Int e = absurd (cc)
base_is base.Char base.Long e = absurd (cc)
base_is base.Char (base.Class c) e = absurd (cc)
base_is base.Short base.Bool e = absurd (cc)
base_is base.Short base.Byte e = absurd (cc)
base_is base.Short base.Char e = absurd (cc)
base_is base.Short base.Int e = absurd (cc)
base_is base.Short base.Long e = absurd (cc)
base_is base.Short (base.Class c) e = absurd (cc)
base_is base.Int base.Bool e = absurd (cc)
base_is base.Int base.Byte e = absurd (cc)
base_is base.Int base.Char e = absurd (cc)
base_is base.Int base.Short e = absurd (cc)
base_is base.Int base.Long e = absurd (cc)
base_is base.Int (base.Class c) e = absurd (cc)
base_is base.Long base.Bool e = absurd (cc)
base_is base.Long base.Byte e = absurd (cc)
base_is base.Long base.Char e = absurd (cc)
base_is base.Long base.Short e = absurd (cc)
base_is base.Long base.Int e = absurd (cc)
base_is base.Long (base.Class c) e = absurd (cc)
base_is (base.Class a) base.Bool e = absurd (cc)
base_is (base.Class a) base.Byte e = absurd (cc)
base_is (base.Class a) base.Char e = absurd (cc)
base_is (base.Class a) base.Short e = absurd (cc)
base_is (base.Class a) base.Int e = absurd (cc)
base_is (base.Class a) base.Long e = absurd (cc)

same_base_itself : (a : Base) → same_base a a ≡ true
same_base_itself base.Bool = refl
same_base_itself base.Byte = refl
same_base_itself base.Char = refl
same_base_itself base.Short = refl
same_base_itself base.Int = refl
same_base_itself base.Long = refl
same_base_itself (base.Class a) = eq-eqb a.0 a.0 refl

type_is : (a b : Ty) → same_type a b ≡ true → a ≡ b
type_is a b e =
    let s = and_parts (eqb a.dims b.dims) (same_base a.base b.base) e in
    ap (λ (d : ℕ). record { dims = d; base = a.base }) (eqb-true a.dims b.dims s.0) ∙ ap (λ (c : Base). record { dims = b.dims; base = c }) (base_is a.base b.base s.1)

types_are : (xs ys : List Ty) → same_types xs ys ≡ true → xs ≡ ys
types_are [] [] e = refl
types_are (x ∷ xs) (y ∷ ys) e =
    let s = and_parts (same_type x y) (same_types xs ys) e in
    ap (λ (z : Ty). z ∷ xs) (type_is x y s.0) ∙ ap (λ (zs : List Ty). y ∷ zs) (types_are xs ys s.1)
types_are [] (y ∷ ys) e = absurd (cc)
types_are (x ∷ xs) [] e = absurd (cc)

result_is : (a b : Option Ty) → same_result a b ≡ true → a ≡ b
result_is None None e = refl
result_is (Some a) (Some b) e = ap (λ (t : Ty). Some t) (type_is a b e)
result_is None (Some b) e = absurd (cc)
result_is (Some a) None e = absurd (cc)

types_itself : (xs : List Ty) → same_types xs xs ≡ true
types_itself [] = refl
types_itself (x ∷ xs) = and_from (same_type x x) _ (and_from (eqb x.dims x.dims) _ (eq-eqb x.dims x.dims refl) (same_base_itself x.base)) (types_itself xs)

result_itself : (a : Option Ty) → same_result a a ≡ true
result_itself None = refl
result_itself (Some a) = and_from (eqb a.dims a.dims) _ (eq-eqb a.dims a.dims refl) (same_base_itself a.base)

pub signature_itself : (a : Method) → same_signature a a ≡ true
signature_itself a = and_from (bytes_eq a.name a.name) _ (same_text a.name a.name refl) (and_from (same_types a.params a.params) _ (types_itself a.params) (result_itself a.result))

pub record AreNamedAlike (a b : Method) : Type 0 where
  pub name : a.name ≡ b.name
  pub params : a.params ≡ b.params
  pub result : a.result ≡ b.result

pub named_alike : (a b : Method) → same_signature a b ≡ true → AreNamedAlike a b
named_alike a b e =
    let s = and_parts (bytes_eq a.name b.name) _ e in
    let t = and_parts (same_types a.params b.params) (same_result a.result b.result) s.1 in
    record { name = text_is a.name b.name s.0; params = types_are a.params b.params t.0; result = result_is a.result b.result t.1 }

pub turned : (a b : Method) → AreNamedAlike a b → AreNamedAlike b a
turned a b s = record { name = sym s.name; params = sym s.params; result = sym s.result }

-- what is named alike has the same signature as any other
pub signature_by : (a b c : Method) → AreNamedAlike a b → same_signature a c ≡ same_signature b c
signature_by a b c s =
    ap (λ (n : List ℕ). bytes_eq n c.name && (same_types a.params c.params && same_result a.result c.result)) s.name
    ∙ (ap (λ (ts : List Ty). bytes_eq b.name c.name && (same_types ts c.params && same_result a.result c.result)) s.params
    ∙ ap (λ (r : Option Ty). bytes_eq b.name c.name && (same_types b.params c.params && same_result r c.result)) s.result)

pub flag_is : (a b : Bool) → same_flag a b ≡ true → a ≡ b
flag_is true true e = refl
flag_is false false e = refl
flag_is true false e = absurd (cc)
flag_is false true e = absurd (cc)

pub qualifier_is : (a b : Qualifier) → same_qualifier a b ≡ true → a ≡ b
qualifier_is Free Free e = refl
qualifier_is Cuttable Cuttable e = refl
qualifier_is Safe Safe e = refl
qualifier_is Free Cuttable e = absurd (cc)
qualifier_is Free Safe e = absurd (cc)
qualifier_is Cuttable Free e = absurd (cc)
qualifier_is Cuttable Safe e = absurd (cc)
qualifier_is Safe Free e = absurd (cc)
qualifier_is Safe Cuttable e = absurd (cc)

pub qualifiers_are : (xs ys : List Qualifier) → same_qualifiers xs ys ≡ true → xs ≡ ys
qualifiers_are [] [] e = refl
qualifiers_are (x ∷ xs) (y ∷ ys) e =
    let s = and_parts (same_qualifier x y) (same_qualifiers xs ys) e in
    ap (λ (z : Qualifier). z ∷ xs) (qualifier_is x y s.0) ∙ ap (λ (zs : List Qualifier). y ∷ zs) (qualifiers_are xs ys s.1)
qualifiers_are [] (y ∷ ys) e = absurd (cc)
qualifiers_are (x ∷ xs) [] e = absurd (cc)

-- no two elements of a list that differ pairwise are the same
none_like : {A : Type 0} (same : A → A → Bool) (x : A) (xs : List A) (j : ℕ) (b : A) → not (list_any (same x) xs) ≡ true → slice_get xs j ≡ Some b → same x b ≡ true → ⊥
none_like same x [] j b n at e = cc
none_like {A} same x (y ∷ xs) zero b n at e =
    let s : y ≡ b = cc in
    let t : same x y ≡ true = subst (λ (z : A). same x z ≡ true) (sym s) e in
    let m = subst (λ (z : Bool). not (z || list_any (same x) xs) ≡ true) t n in cc
none_like same x (y ∷ xs) (suc j) b n at e = by (same x y) n (λ rest. none_like same x xs j b rest at e)
  where
    by : (z : Bool) → not (z || list_any (same x) xs) ≡ true → (not (list_any (same x) xs) ≡ true → ⊥) → ⊥
    by true n again = cc
    by false n again = again n

pub one_place : {A : Type 0} (same : A → A → Bool) (xs : List A) (i j : ℕ) (a b : A) → all_differ same xs ≡ true → slice_get xs i ≡ Some a → slice_get xs j ≡ Some b → same a b ≡ true → same b a ≡ true → i ≡ j
one_place same [] i j a b d at other e f = absurd (cc)
one_place same (x ∷ xs) zero zero a b d at other e f = refl
one_place {A} same (x ∷ xs) zero (suc j) a b d at other e f =
    let s : x ≡ a = cc in
    absurd (none_like same x xs j b (and_parts (not (list_any (same x) xs)) (all_differ same xs) d).0 other (subst (λ (z : A). same z b ≡ true) (sym s) e))
one_place {A} same (x ∷ xs) (suc i) zero a b d at other e f =
    let s : x ≡ b = cc in
    absurd (none_like same x xs i a (and_parts (not (list_any (same x) xs)) (all_differ same xs) d).0 at (subst (λ (z : A). same z a ≡ true) (sym s) f))
one_place same (x ∷ xs) (suc i) (suc j) a b d at other e f = ap suc (one_place same xs i j a b (and_parts (not (list_any (same x) xs)) (all_differ same xs) d).1 at other e f)
