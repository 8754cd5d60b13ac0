-- The first of a list, in loops and of lists that are put together.
use Rattle.std.proofs.Common.{◌≡◌, ℕ, zero, suc, ◌+◌, ◌<◌, ◌≤◌, Bool, true, false, List, [], ◌∷◌, ◌++◌, length, get_or, take, drop, Option, Some, None, refl, sym, ap, ◌∙◌, arith, drop-cons, filter}
use Rattle.std.specs.Prelude.{◌||◌}
use Rattle.std.specs.List.{flat_map, list_any}
use Rattle.std.proofs.lemmas.List.{append-nil, at_drop_all}
use Rattle.std.proofs.lemmas.Grind.{flat_map-append}
use Rattle.kilim_lemmas.proofs.Lists.{take_at}
use Rattle.kilim_link_spec.specs.Linked.{first_of}
use Rattle.kilim_link_override_faults.specs.Parts.{is_so}
use Rattle.kilim_link_override_faults.proofs.Truth.{cases, none_here, none_later, none_of_two}

-- two lists put together
pub here : {A : Type 0} (xs ys : List A) (x : A) → Some x ≡ first_of xs → Some x ≡ first_of (xs ++ ys)
here [] ys x e = absurd cc
here (z ∷ zs) ys x e = e

pub later : {A : Type 0} (xs ys : List A) (r : Option A) → None ≡ first_of xs → r ≡ first_of ys → r ≡ first_of (xs ++ ys)
later [] ys r e rest = rest
later (z ∷ zs) ys r e rest = absurd cc

pub flat_map_at : {A B : Type 0} (f : A → List B) (xs : List A) (i : ℕ) (x : A) → i < length xs → x ≡ get_or xs i x → flat_map f (take i xs) ++ f x ≡ flat_map f (take (i + 1) xs)
flat_map_at f xs i x lt is = sym (ap (flat_map f) (take_at xs i x lt is) ∙ (flat_map-append f (take i xs) (x ∷ []) ∙ ap (λ ys. flat_map f (take i xs) ++ ys) (append-nil (f x))))

-- ---- the first of a list that passes a test

pub first_is : {A : Type 0} (test : A → Bool) (x : A) (xs : List A) → test x ≡ true → first_of (filter test (x ∷ xs)) ≡ Some x
first_is test x xs t = rw t refl

pub first_isnt : {A : Type 0} (test : A → Bool) (x : A) (xs : List A) → test x ≡ false → first_of (filter test (x ∷ xs)) ≡ first_of (filter test xs)
first_isnt test x xs t = rw t refl

-- behind some that don't
pub first_behind : {A : Type 0} (test : A → Bool) (xs : List A) (x : A) (ys : List A) → list_any test xs ≡ false → test x ≡ true → first_of (filter test (xs ++ x ∷ ys)) ≡ Some x
first_behind test [] x ys none is = first_is test x ys is
first_behind test (z ∷ zs) x ys none is =
    first_isnt test z (zs ++ x ∷ ys) (none_here (test z) (list_any test zs) none) ∙ first_behind test zs x ys (none_later (test z) (list_any test zs) none) is

-- where none passes another test, neither does the first
pub first_passes : {A : Type 0} (test bad : A → Bool) (xs : List A) → list_any bad xs ≡ false → is_so bad (first_of (filter test xs)) ≡ false
first_passes test bad [] none = refl
first_passes test bad (x ∷ xs) none =
    cases (test x)
    (λ is. rw is (none_here (bad x) (list_any bad xs) none))
    (λ isnt. rw isnt (first_passes test bad xs (none_later (bad x) (list_any bad xs) none)))

pub first_isnt_there : {A : Type 0} (test : A → Bool) (xs : List A) → first_of (filter test xs) ≡ None → list_any test xs ≡ false
first_isnt_there test [] none = refl
first_isnt_there test (x ∷ xs) none =
    cases (test x)
    (λ is. absurd (let wrong : Some x ≡ None = sym (first_is test x xs is) ∙ none in cc))
    (λ isnt. none_of_two (test x) (list_any test xs) isnt (first_isnt_there test xs (sym (first_isnt test x xs isnt) ∙ none)))

-- ---- loops over the rest of a list

pub rest_at : {A : Type 0} (xs : List A) (i : ℕ) (x d : A) → i < length xs → x ≡ get_or xs i d → drop i xs ≡ x ∷ drop (i + 1) xs
rest_at xs i x d lt is =
    let n : suc i ≡ i + 1 = omega arith in
    drop-cons xs i d lt ∙ (ap (λ y. y ∷ drop (suc i) xs) (sym is) ∙ ap (λ (k : ℕ). x ∷ drop k xs) n)

module _ {A : Type 0} (test : A → Bool) (xs : List A) (i : ℕ) (x d : A) (b : Bool) (lt : i < length xs) (is : x ≡ get_or xs i d) (answers : b ≡ test x) where
  pub found_at : (r : Option A) → first_of (filter test (drop i xs)) ≡ r → b ≡ true → Some x ≡ r
  found_at r so_far t = sym (ap (λ ys. first_of (filter test ys)) (rest_at xs i x d lt is) ∙ first_is test x (drop (i + 1) xs) (sym answers ∙ t)) ∙ so_far

  pub passed_at : (r : Option A) → first_of (filter test (drop i xs)) ≡ r → b ≡ false → first_of (filter test (drop (i + 1) xs)) ≡ r
  passed_at r so_far t = sym (ap (λ ys. first_of (filter test ys)) (rest_at xs i x d lt is) ∙ first_isnt test x (drop (i + 1) xs) (sym answers ∙ t)) ∙ so_far

  pub any_at : (r : Bool) → list_any test (drop i xs) ≡ r → b ≡ true → true ≡ r
  any_at r so_far t = ap (λ (c : Bool). c || list_any test (drop (i + 1) xs)) (sym t ∙ answers) ∙ (sym (ap (list_any test) (rest_at xs i x d lt is)) ∙ so_far)

  pub none_at : (r : Bool) → list_any test (drop i xs) ≡ r → b ≡ false → list_any test (drop (i + 1) xs) ≡ r
  none_at r so_far t = ap (λ (c : Bool). c || list_any test (drop (i + 1) xs)) (sym t ∙ answers) ∙ (sym (ap (list_any test) (rest_at xs i x d lt is)) ∙ so_far)

-- none is left
pub none_found : {A : Type 0} (test : A → Bool) (xs : List A) (i : ℕ) (r : Option A) → length xs ≤ i → first_of (filter test (drop i xs)) ≡ r → None ≡ r
none_found {A} test xs i r le so_far = sym (at_drop_all (λ (ys : List A). first_of (filter test ys)) xs i le) ∙ so_far

pub none_passes : {A : Type 0} (test : A → Bool) (xs : List A) (i : ℕ) (r : Bool) → length xs ≤ i → list_any test (drop i xs) ≡ r → false ≡ r
none_passes test xs i r le so_far = sym (at_drop_all (list_any test) xs i le) ∙ so_far
