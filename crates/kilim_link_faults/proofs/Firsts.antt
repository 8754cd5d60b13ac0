-- The first of a list, in loops and of lists that are put together.
use Rattle.std.proofs.Common.{◌≡◌, ℕ, zero, suc, ◌+◌, ◌<◌, ◌≤◌, Bool, true, false, List, [], ◌∷◌, ◌++◌, length, get_or, take, drop, reverse, filter, Option, Some, None, refl, sym, ap, ◌∙◌, arith, drop-cons}
use Rattle.std.specs.Prelude.{◌||◌, slice_get}
use Rattle.std.specs.List.{list_any}
use Rattle.std.proofs.lemmas.List.{reverse-append, at_drop_all}
use Rattle.std.proofs.lemmas.Option.{same_Some}
use Rattle.kilim_lemmas.proofs.Lists.{take_at, drop_at}
use Rattle.kilim_link_spec.specs.Linked.{first_of}

or_true : (a b : Bool) → true ≡ b → true ≡ (a || b)
or_true true b e = refl
or_true false b e = e

true_or : (a b : Bool) → true ≡ a → true ≡ (a || b)
true_or true b e = refl
true_or false b e = absurd cc

or_false : (a : Bool) → a ≡ false → (a || false) ≡ false
or_false true e = e
or_false false e = refl

or_both : (a b c : Bool) → (a || b) ≡ false → (b ≡ false → c ≡ false) → (a || c) ≡ false
or_both true b c e f = e
or_both false b c e f = f e

abbrev first_that : {A : Type 0} → (A → Bool) → List A → Option A
first_that test xs = first_of (filter test xs)

filtered : {A : Type 0} (test : A → Bool) (x : A) (ys : List A) → test x ≡ true → first_that test (x ∷ ys) ≡ Some x
filtered test x ys t = rw t refl

skipped : {A : Type 0} (test : A → Bool) (x : A) (ys : List A) → test x ≡ false → first_that test (x ∷ ys) ≡ first_that test ys
skipped test x ys t = rw t refl

-- a loop that answers the first element that passes a test
module _ {A : Type 0} (test : A → Bool) (xs : List A) (i : ℕ) (x : A) (r : Option A) (b : Bool) (lt : i < length xs) (is : x ≡ get_or xs i x) (answers : b ≡ test x) (so_far : first_of (filter test (drop i xs)) ≡ r) where
  pub found_at : b ≡ true → Some x ≡ r
  found_at t = sym (ap (first_that test) (drop_at xs i x lt is) ∙ filtered test x (drop (i + 1) xs) (sym answers ∙ t)) ∙ so_far

  pub passed_at : b ≡ false → first_of (filter test (drop (i + 1) xs)) ≡ r
  passed_at t = sym (ap (first_that test) (drop_at xs i x lt is) ∙ skipped test x (drop (i + 1) xs) (sym answers ∙ t)) ∙ so_far

pub none_passes : {A : Type 0} (test : A → Bool) (xs : List A) (i : ℕ) {r : Option A} → length xs ≤ i → first_of (filter test (drop i xs)) ≡ r → None ≡ r
none_passes test xs i le so_far = sym (at_drop_all (first_that test) xs i le) ∙ so_far

-- two lists put together
pub here : {A : Type 0} (xs ys : List A) (x : A) → Some x ≡ first_of xs → Some x ≡ first_of (xs ++ ys)
here [] ys x e = absurd cc
here (z ∷ zs) ys x e = e

pub later : {A : Type 0} (xs ys : List A) (r : Option A) → None ≡ first_of xs → r ≡ first_of ys → r ≡ first_of (xs ++ ys)
later [] ys r e rest = rest
later (z ∷ zs) ys r e rest = absurd cc

-- the elements before a place, the last one first
pub reverse_at : {A : Type 0} (xs : List A) (i : ℕ) (x : A) → i < length xs → x ≡ get_or xs i x → reverse (take (i + 1) xs) ≡ x ∷ reverse (take i xs)
reverse_at xs i x lt is = ap reverse (take_at xs i x lt is) ∙ reverse-append (take i xs) (x ∷ [])

-- ---- a test of the elements before a place

pub none_at : {A : Type 0} (test : A → Bool) (xs : List A) (i : ℕ) (x : A) → Some x ≡ slice_get xs i → test x ≡ false → list_any test (take i xs) ≡ false → list_any test (take (i + 1) xs) ≡ false
none_at test [] i x is t before = absurd cc
none_at test (y ∷ ys) zero x is t before = or_false (test y) (ap test (sym (same_Some x y is)) ∙ t)
none_at test (y ∷ ys) (suc i) x is t before =
    let n : suc i + 1 ≡ suc (i + 1) = omega arith in
    ap (λ (k : ℕ). list_any test (take k (y ∷ ys))) n ∙ or_both (test y) (list_any test (take i ys)) (list_any test (take (i + 1) ys)) before (none_at test ys i x is t)

pub any_in : {A : Type 0} (test : A → Bool) (xs : List A) (i : ℕ) (x : A) → Some x ≡ slice_get xs i → test x ≡ true → true ≡ list_any test xs
any_in test [] i x is t = absurd cc
any_in test (y ∷ ys) zero x is t = true_or (test y) (list_any test ys) (sym t ∙ ap test (same_Some x y is))
any_in test (y ∷ ys) (suc i) x is t = or_true (test y) (list_any test ys) (any_in test ys i x is t)

-- where there are no more
pub none_all : {A : Type 0} (test : A → Bool) (xs : List A) (i : ℕ) → None ≡ slice_get xs i → list_any test (take i xs) ≡ false → false ≡ list_any test xs
none_all test [] i is before = refl
none_all test (y ∷ ys) zero is before = absurd cc
none_all test (y ∷ ys) (suc i) is before = sym (or_both (test y) (list_any test (take i ys)) (list_any test ys) before (λ e. sym (none_all test ys i is e)))
