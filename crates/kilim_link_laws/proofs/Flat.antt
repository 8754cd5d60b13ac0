-- Lists that are put together of lists.
use Rattle.std.proofs.Common.{◌≡◌, ◌⊎◌, inl, inr, append_assoc, cond, ℕ, zero, suc, Bool, true, false, List, [], ◌∷◌, ◌++◌, slice_get, Option, Some, None, refl, sym, ap, ◌∙◌}
use Rattle.std.specs.List.{flat_map, list_all, list_any}
use Rattle.std.proofs.lemmas.Bool.{and_from, and_parts, or_from, or_parts, or_cases}
use Rattle.std.proofs.lemmas.Option.{same_Some, none-some}
use Rattle.kilim_program.specs.Names.{first_that}

pub all_append : {A : Type 0} (test : A → Bool) (xs ys : List A) → list_all test xs ≡ true → list_all test ys ≡ true → list_all test (xs ++ ys) ≡ true
all_append test [] ys left right = right
all_append test (x ∷ xs) ys left right =
    let parts = and_parts (test x) (list_all test xs) left in
    and_from (test x) (list_all test (xs ++ ys)) parts.0 (all_append test xs ys parts.1 right)

pub all_flat : {A B : Type 0} (f : A → List B) (test : B → Bool) (xs : List A) → ((n : ℕ) (x : A) → slice_get xs n ≡ Some x → list_all test (f x) ≡ true) → list_all test (flat_map f xs) ≡ true
all_flat f test [] each = refl
all_flat f test (x ∷ xs) each = all_append test (f x) (flat_map f xs) (each 0 x refl) (all_flat f test xs (λ n y e. each (suc n) y e))

pub none_append : {A : Type 0} (test : A → Bool) (xs ys : List A) → list_any test (xs ++ ys) ≡ false → (list_any test xs ≡ false) × (list_any test ys ≡ false)
none_append test [] ys none = (refl, none)
none_append test (x ∷ xs) ys none =
    let parts = or_parts (test x) (list_any test (xs ++ ys)) none in
    let rest = none_append test xs ys parts.1 in
    (or_from (test x) (list_any test xs) parts.0 rest.0, rest.1)

pub append_none : {A : Type 0} (test : A → Bool) (xs ys : List A) → list_any test xs ≡ false → list_any test ys ≡ false → list_any test (xs ++ ys) ≡ false
append_none test [] ys left right = right
append_none test (x ∷ xs) ys left right =
    let parts = or_parts (test x) (list_any test xs) left in
    or_from (test x) (list_any test (xs ++ ys)) parts.0 (append_none test xs ys parts.1 right)

pub none_flat_at : {A B : Type 0} (f : A → List B) (test : B → Bool) (xs : List A) → list_any test (flat_map f xs) ≡ false → (n : ℕ) (x : A) → slice_get xs n ≡ Some x → list_any test (f x) ≡ false
none_flat_at f test [] none n x there = absurd (none-some x there)
none_flat_at f test (y ∷ xs) none zero x there = ap (λ (z : _). list_any test (f z)) (sym (same_Some y x there)) ∙ (none_append test (f y) (flat_map f xs) none).0
none_flat_at f test (y ∷ xs) none (suc n) x there = none_flat_at f test xs (none_append test (f y) (flat_map f xs) none).1 n x there

pub flat_map-append : {A B : Type 0} (f : A → List B) (xs ys : List A) → flat_map f (xs ++ ys) ≡ flat_map f xs ++ flat_map f ys
flat_map-append f [] ys = refl
flat_map-append f (x ∷ xs) ys = ap (λ (zs : List _). f x ++ zs) (flat_map-append f xs ys) ∙ sym (append_assoc (f x) (flat_map f xs) (flat_map f ys))

-- ---- the first one that passes

cond_by : {A : Type 0} (b : Bool) (x : A) (o : Option A) (y : A) → cond b (Some x) o ≡ Some y → ((b ≡ true) × (x ≡ y)) ⊎ ((b ≡ false) × (o ≡ Some y))
cond_by true x o y e = inl (refl, same_Some x y e)
cond_by false x o y e = inr (refl, e)

pub record First {A : Type 0} (test : A → Bool) (xs : List A) (x : A) : Type 0 where
  pub place : ℕ
  pub at : slice_get xs place ≡ Some x
  pub passes : test x ≡ true

first_by : {A : Type 0} (test : A → Bool) (y : A) (xs : List A) (x : A) → (first_that test xs ≡ Some x → First test xs x) → ((test y ≡ true) × (y ≡ x)) ⊎ ((test y ≡ false) × (first_that test xs ≡ Some x)) → First test (y ∷ xs) x
first_by test y xs x later (inl h) = record { place = 0; at = ap Some h.1; passes = ap test (sym h.1) ∙ h.0 }
first_by test y xs x later (inr h) = let f = later h.1 in record { place = suc f.place; at = f.at; passes = f.passes }

pub first_passes : {A : Type 0} (test : A → Bool) (xs : List A) (x : A) → first_that test xs ≡ Some x → First test xs x
first_passes test [] x e = absurd (none-some x e)
first_passes test (y ∷ xs) x e = first_by test y xs x (first_passes test xs x) (cond_by (test y) y (first_that test xs) x e)

not_first : {A : Type 0} (b : Bool) (x : A) (o : Option A) → cond b (Some x) o ≡ None → (b ≡ false) × (o ≡ None)
not_first true x o e = absurd (none-some x (sym e))
not_first false x o e = (refl, e)

pub first_none : {A : Type 0} (test : A → Bool) (xs : List A) → first_that test xs ≡ None → (j : ℕ) (x : A) → slice_get xs j ≡ Some x → test x ≡ false
first_none test [] e j x there = absurd (none-some x there)
first_none test (y ∷ xs) e zero x there = ap test (sym (same_Some y x there)) ∙ (not_first (test y) y (first_that test xs) e).0
first_none test (y ∷ xs) e (suc j) x there = first_none test xs (not_first (test y) y (first_that test xs) e).1 j x there

first_so : {A : Type 0} (b : Bool) (y : A) (o r : Option A) (x : A) → cond b (Some y) o ≡ Some x → (o ≡ Some x → r ≡ Some x) → cond b (Some y) r ≡ Some x
first_so true y o r x e later = e
first_so false y o r x e later = later e

-- it stays the first one whatever follows
pub first_left : {A : Type 0} (test : A → Bool) (xs ys : List A) (x : A) → first_that test xs ≡ Some x → first_that test (xs ++ ys) ≡ Some x
first_left test [] ys x e = absurd (none-some x e)
first_left test (y ∷ xs) ys x e = first_so (test y) y (first_that test xs) (first_that test (xs ++ ys)) x e (first_left test xs ys x)

-- ---- one that passes

any_by : {A : Type 0} (test : A → Bool) (y : A) (xs : List A) → (list_any test xs ≡ true → (x : A) × First test xs x) → (test y ≡ true) ⊎ (list_any test xs ≡ true) → (x : A) × First test (y ∷ xs) x
any_by test y xs later (inl h) = (y, record { place = 0; at = refl; passes = h })
any_by test y xs later (inr h) = let f = later h in (f.0, record { place = suc f.1.place; at = f.1.at; passes = f.1.passes })

pub any_at : {A : Type 0} (test : A → Bool) (xs : List A) → list_any test xs ≡ true → (x : A) × First test xs x
any_at test [] e = absurd (cc)
any_at test (y ∷ xs) e = any_by test y xs (any_at test xs) (or_cases (test y) (list_any test xs) e)
