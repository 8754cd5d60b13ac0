-- What holds of each row of a table holds of the row of a number.
use Rattle.std.proofs.Common.{◌≡◌, ℕ, ◌<◌, Bool, true, false, List, [], ◌∷◌, Option, Some, None, refl, subst, arith}
use Rattle.std.specs.Prelude.{◌&&◌, ◌==◌, nat_lt, nat_le, if◌then◌else◌}
use Rattle.std.specs.List.{list_all, find, AllByRecursion}
use Rattle.std.specs.Option.{option_map}
use Rattle.std.proofs.lemmas.Bool.{and_parts, eqb-true, ltb-true, leb-true, agree_below, agree_below_at}
use Rattle.std.proofs.lemmas.Option.{same_Some, none-some}
use Rattle.kilim_class_code.specs.declared.opcodes.forms.OpForm.{OpForm}
use Rattle.kilim_class_code.specs.opcodes.Table.{Row, rows, form_of}
use Rattle.kilim_link_spec.specs.Code.{row}

pub each_passes : {A : Type 0} (test : A → Bool) (xs : List A) → list_all test xs ≡ true → AllByRecursion (λ x. test x ≡ true) xs
each_passes test [] e = tt
each_passes test (x ∷ xs) e = let p = and_parts (test x) (list_all test xs) e in (p.0, each_passes test xs p.1)

-- one of two
pub if_cases : {A : Type 0} (P : Type 0) (test : Bool) (y x : A) (later : Option A) → (test ≡ true → y ≡ x → P) → (test ≡ false → later ≡ Some x → P) → (if test then Some y else later) ≡ Some x → P
if_cases P true y x later here there e = here refl (same_Some y x e)
if_cases P false y x later here there e = there refl e

pub rows_hold : {A : Type 0} (P : ℕ → A → Type 0) (table : List (ℕ × A)) → AllByRecursion (λ r. P r.0 r.1) table → (number : ℕ) (x : A) → row table number ≡ Some x → P number x
rows_hold P [] all number x e = absurd (none-some x e)
rows_hold P (r ∷ rs) all number x e =
    if_cases (P number x) (r.0 == number) r.1 x (row rs number)
    (λ here same. subst (λ k. P k x) (eqb-true r.0 number here) (subst (λ y. P r.0 y) same all.0))
    (λ there later. rows_hold P rs all.1 number x later) e

pub rows_pass : {A : Type 0} (test : ℕ → A → Bool) (table : List (ℕ × A)) → list_all (λ r. test r.0 r.1) table ≡ true → (number : ℕ) (x : A) → row table number ≡ Some x → test number x ≡ true
rows_pass test table all number x e = rows_hold (λ k y. test k y ≡ true) table (each_passes (λ r. test r.0 r.1) table all) number x e

-- ---- the table of forms

find_holds : {A : Type 0} (test holds : A → Bool) (xs : List A) (x : A) → list_all holds xs ≡ true → find test xs ≡ Some x → (test x ≡ true) × (holds x ≡ true)
find_holds test holds [] x all e = absurd (none-some x e)
find_holds test holds (y ∷ ys) x all e =
    let p = and_parts (holds y) (list_all holds ys) all in
    if_cases ((test x ≡ true) × (holds x ≡ true)) (test y) y x (find test ys)
    (λ here same. (subst (λ z. test z ≡ true) same here, subst (λ z. holds z ≡ true) same p.0))
    (λ there later. find_holds test holds ys x p.1 later) e

-- the row in which a form stands
pub record Mapped {A B : Type 0} (f : A → B) (o : Option A) (y : B) : Type 0 where
  pub x : A
  pub there : o ≡ Some x
  pub is : f x ≡ y

pub mapped : {A B : Type 0} (f : A → B) (o : Option A) (y : B) → option_map f o ≡ Some y → Mapped f o y
mapped f None y e = absurd (none-some y e)
mapped f (Some x) y e = record { x = x; there = refl; is = same_Some (f x) y e }

abbrev in_row : ℕ → Row → Bool
in_row number r = nat_le r.0 number && nat_le number r.1

rows_end : list_all (λ r. nat_lt r.1 201) rows ≡ true
unfolding rows
rows_end = refl

form_below : (number : ℕ) (form : OpForm) → form_of number ≡ Some form → number < 201
unfolding form_of
form_below number form e =
    let m = mapped (λ (r : Row). r.2) (find (in_row number) rows) form e in
    let f = find_holds (in_row number) (λ r. nat_lt r.1 201) rows m.x rows_end m.there in
    let within = leb-true number m.x.1 (and_parts (nat_le m.x.0 number) (nat_le number m.x.1) f.0).1 in
    let end = ltb-true m.x.1 201 f.1 in
    omega (arith, within, end)

-- a test of a number with its form, if it has one
abbrev pub if_form : (OpForm → Bool) → Option OpForm → Bool
if_form test None = true
if_form test (Some form) = test form

abbrev pub form_passes : (ℕ → OpForm → Bool) → ℕ → Bool
form_passes test number = if_form (test number) (form_of number)

pub forms_pass : (test : ℕ → OpForm → Bool) → agree_below (form_passes test) (λ k. true) 201 ≡ true → (number : ℕ) (form : OpForm) → form_of number ≡ Some form → test number form ≡ true
forms_pass test all number form e =
    subst (λ o. if_form (test number) o ≡ true) e (agree_below_at (form_passes test) (λ k. true) 201 number all (form_below number form e))
