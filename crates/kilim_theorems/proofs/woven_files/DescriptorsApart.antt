-- No two descriptors get one with the fiber, and none in plain form has it.
use Rattle.std.proofs.Common.{◌≡◌, ◌≢◌, ℕ, arith, List, [], ◌∷◌, ◌++◌, Result, Ok, refl, sym, ap, subst, ◌∙◌}
use Rattle.std.specs.List.{AllByRecursion}
use Rattle.kilim_class_descriptors.specs.declared.types.FieldText.{FieldText}
use Rattle.kilim_class_descriptors.specs.declared.types.MethodText.{MethodText}
use Rattle.kilim_class_descriptors.specs.Exact.{spelled_by}
use Rattle.kilim_class_descriptors.specs.Text.{method_text as text_of_method, MethodFits, FieldFits}
use Rattle.kilim_class_descriptors.specs.Reading.{whole_method}
use Rattle.kilim_class_descriptors.proofs.Spelled.{TakesAll}
use Rattle.kilim_class_descriptors.proofs.SpelledMethods.{method_takes, method_again}
use Rattle.kilim_weave_file_spec.specs.Texts.{fiber_text, with_fiber, fiber_added, woven_descriptor}
use Rattle.kilim_theorems.specs.woven_files.Descriptors.{IsPlain, DescriptorsApart}

abbrev Read : Type 0
Read = Result MethodText ℕ

abbrev ok : MethodText → Read
ok m = Ok m

read_same : (x y : MethodText) → ok x ≡ ok y → x ≡ y
read_same x y e = cc

-- what is read is spelled so
takes : (units : List ℕ) (m : MethodText) (r : Read) → r ≡ Ok m → TakesAll text_of_method MethodFits units r → (units ≡ text_of_method m) × MethodFits m
takes units m r is h = subst (TakesAll text_of_method MethodFits units) is h

pub spelled : (units : List ℕ) (p : IsPlain units) → (units ≡ text_of_method p.method) × MethodFits p.method
spelled units p = takes units p.method (whole_method units) p.is (method_takes units)

-- with the fiber it has a text too
all_fit : (fs : List FieldText) → AllByRecursion FieldFits fs → AllByRecursion FieldFits (fs ++ fiber_text ∷ [])
all_fit [] h = ((omega arith, (refl, refl)), tt)
all_fit (f ∷ fs) h = (h.0, all_fit fs h.1)

fiber_fits : (m : MethodText) → MethodFits m → MethodFits (with_fiber m)
fiber_fits m h = (all_fit m.params h.0, h.1)

pub woven_is : (units : List ℕ) (p : IsPlain units) → woven_descriptor units ≡ text_of_method (with_fiber p.method)
unfolding woven_descriptor
woven_is units p = ap (λ (r : Read). fiber_added units (spelled_by r)) p.is

pub woven_read : (units : List ℕ) (p : IsPlain units) → whole_method (woven_descriptor units) ≡ Ok (with_fiber p.method)
woven_read units p = ap whole_method (woven_is units p) ∙ method_again (with_fiber p.method) (fiber_fits p.method (spelled units p).1)

last_same : (xs ys : List FieldText) (z : FieldText) → xs ++ z ∷ [] ≡ ys ++ z ∷ [] → xs ≡ ys
last_same [] [] z e = refl
last_same [] (y ∷ []) z e = absurd (cc)
last_same [] (y ∷ y2 ∷ ys) z e = absurd (cc)
last_same (x ∷ []) [] z e = absurd (cc)
last_same (x ∷ x2 ∷ xs) [] z e = absurd (cc)
last_same (x ∷ xs) (y ∷ ys) z e = ap (λ w. w ∷ xs) (head_same x y (xs ++ z ∷ []) (ys ++ z ∷ []) e) ∙ ap (λ ws. y ∷ ws) (last_same xs ys z (tail_same x y (xs ++ z ∷ []) (ys ++ z ∷ []) e))
  where
    head_same : (a b : FieldText) (us vs : List FieldText) → a ∷ us ≡ b ∷ vs → a ≡ b
    head_same a b us vs e = cc

    tail_same : (a b : FieldText) (us vs : List FieldText) → a ∷ us ≡ b ∷ vs → us ≡ vs
    tail_same a b us vs e = cc

without_fiber : (a b : MethodText) → with_fiber a ≡ with_fiber b → a ≡ b
without_fiber a b e =
    ap (λ ps. record { params = ps; result = a.result }) (last_same a.params b.params fiber_text (ap (λ (m : MethodText). m.params) e))
    ∙ ap (λ r. record { params = b.params; result = r }) (ap (λ (m : MethodText). m.result) e)

has_fiber : (fs : List FieldText) → AllByRecursion (λ f. f ≢ fiber_text) (fs ++ fiber_text ∷ []) → ⊥
has_fiber [] h = h.0 refl
has_fiber (f ∷ fs) h = has_fiber fs h.1

one : (a b : List ℕ) → IsPlain a → IsPlain b → woven_descriptor a ≡ woven_descriptor b → a ≡ b
one a b pa pb same =
    let m : pa.method ≡ pb.method = without_fiber pa.method pb.method (read_same (with_fiber pa.method) (with_fiber pb.method) (sym (woven_read a pa) ∙ (ap whole_method same ∙ woven_read b pb))) in
    (spelled a pa).0 ∙ (ap text_of_method m ∙ sym (spelled b pb).0)

none : (a b : List ℕ) → IsPlain a → IsPlain b → woven_descriptor a ≢ b
none a b pa pb same =
    let m : with_fiber pa.method ≡ pb.method = read_same (with_fiber pa.method) pb.method (sym (woven_read a pa) ∙ (ap whole_method same ∙ pb.is)) in
    has_fiber pa.method.params (subst (λ (x : MethodText). AllByRecursion (λ f. f ≢ fiber_text) x.params) (sym m) pb.plain)

pub apart : DescriptorsApart
apart = record { one = one; none = none }
