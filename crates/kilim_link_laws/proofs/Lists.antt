-- Lists by the places of their elements.
use Rattle.std.proofs.Common.{◌≡◌, ℕ, zero, suc, ◌+◌, ◌<◌, Bool, true, false, not, List, [], ◌∷◌, ◌++◌, map, length, take, slice_get, Some, option_map, refl, sym, ap, ◌∙◌, arith}
use Rattle.std.specs.List.{list_all, list_any}
use Rattle.std.proofs.lemmas.Bool.{and_from, and_parts, or_parts, or_from, not_from_false, not-true}
use Rattle.std.proofs.lemmas.Option.{same_Some, none-some}
use Rattle.kilim_program.specs.Same.{all_differ}

-- ---- elements at places

-- where an element of two lists stands
pub data Side {A : Type 0} (xs ys : List A) (n : ℕ) (x : A) : Type 0 where
  Left : slice_get xs n ≡ Some x → Side xs ys n x
  Right : (k : ℕ) → n ≡ length xs + k → slice_get ys k ≡ Some x → Side xs ys n x

side_more : {A : Type 0} (y : A) (xs ys : List A) (n : ℕ) (x : A) → Side xs ys n x → Side (y ∷ xs) ys (suc n) x
side_more y xs ys n x (Left e) = Left e
side_more y xs ys n x (Right k is e) = Right k (omega (arith, is)) e

pub side : {A : Type 0} (xs ys : List A) (n : ℕ) (x : A) → slice_get (xs ++ ys) n ≡ Some x → Side xs ys n x
side [] ys n x e = Right n (omega arith) e
side (y ∷ xs) ys zero x e = Left e
side (y ∷ xs) ys (suc n) x e = side_more y xs ys n x (side xs ys n x e)

pub get_map : {A B : Type 0} (f : A → B) (xs : List A) (n : ℕ) → slice_get (map f xs) n ≡ option_map f (slice_get xs n)
get_map f [] n = refl
get_map f (x ∷ xs) zero = refl
get_map f (x ∷ xs) (suc n) = get_map f xs n

-- what is at a place of a mapped list
pub mapped_at : {A B : Type 0} (f : A → B) (xs : List A) (n : ℕ) (x : A) → slice_get xs n ≡ Some x → slice_get (map f xs) n ≡ Some (f x)
mapped_at f xs n x e = get_map f xs n ∙ ap (option_map f) e

pub record Origin {A B : Type 0} (f : A → B) (xs : List A) (n : ℕ) (y : B) : Type 0 where
  pub of : A
  pub at : slice_get xs n ≡ Some of
  pub is : f of ≡ y

pub origin : {A B : Type 0} (f : A → B) (xs : List A) (n : ℕ) (y : B) → slice_get (map f xs) n ≡ Some y → Origin f xs n y
origin f [] n y e = absurd (none-some y e)
origin f (x ∷ xs) zero y e = record { of = x; at = refl; is = same_Some (f x) y e }
origin f (x ∷ xs) (suc n) y e = let o = origin f xs n y e in record { of = o.of; at = o.at; is = o.is }

pub get_take : {A : Type 0} (xs : List A) (m n : ℕ) → n < m → slice_get (take m xs) n ≡ slice_get xs n
get_take [] zero n l = refl
get_take [] (suc m) n l = refl
get_take (x ∷ xs) zero n l = absurd (omega (arith, l))
get_take (x ∷ xs) (suc m) zero l = refl
get_take (x ∷ xs) (suc m) (suc n) l = get_take xs m n (omega (arith, l))

pub same_by_places : {A : Type 0} (xs ys : List A) → ((n : ℕ) → slice_get xs n ≡ slice_get ys n) → xs ≡ ys
same_by_places [] [] each = refl
same_by_places [] (y ∷ ys) each = absurd (none-some y (each 0))
same_by_places (x ∷ xs) [] each = absurd (none-some x (sym (each 0)))
same_by_places (x ∷ xs) (y ∷ ys) each =
    let front = same_Some x y (each 0) in
    let rest = same_by_places xs ys (λ n. each (suc n)) in
    ap (λ (z : _). z ∷ xs) front ∙ ap (λ (zs : List _). y ∷ zs) rest

-- ---- tests of all elements, and of any

pub all_by_places : {A : Type 0} (test : A → Bool) (xs : List A) → ((n : ℕ) (x : A) → slice_get xs n ≡ Some x → test x ≡ true) → list_all test xs ≡ true
all_by_places test [] each = refl
all_by_places test (x ∷ xs) each = and_from (test x) (list_all test xs) (each 0 x refl) (all_by_places test xs (λ n y e. each (suc n) y e))

pub all_at : {A : Type 0} (test : A → Bool) (xs : List A) → list_all test xs ≡ true → (n : ℕ) (x : A) → slice_get xs n ≡ Some x → test x ≡ true
all_at test [] all n x e = absurd (none-some x e)
all_at test (y ∷ xs) all zero x e = ap test (sym (same_Some y x e)) ∙ (and_parts (test y) (list_all test xs) all).0
all_at test (y ∷ xs) all (suc n) x e = all_at test xs (and_parts (test y) (list_all test xs) all).1 n x e

pub none_by_places : {A : Type 0} (test : A → Bool) (xs : List A) → ((n : ℕ) (x : A) → slice_get xs n ≡ Some x → test x ≡ false) → list_any test xs ≡ false
none_by_places test [] each = refl
none_by_places test (x ∷ xs) each = or_from (test x) (list_any test xs) (each 0 x refl) (none_by_places test xs (λ n y e. each (suc n) y e))

pub none_at : {A : Type 0} (test : A → Bool) (xs : List A) → list_any test xs ≡ false → (n : ℕ) (x : A) → slice_get xs n ≡ Some x → test x ≡ false
none_at test [] none n x e = absurd (none-some x e)
none_at test (y ∷ xs) none zero x e = ap test (sym (same_Some y x e)) ∙ (or_parts (test y) (list_any test xs) none).0
none_at test (y ∷ xs) none (suc n) x e = none_at test xs (or_parts (test y) (list_any test xs) none).1 n x e

-- ---- no two are the same

pub differ_by_places : {A : Type 0} (same : A → A → Bool) (xs : List A) →
    ((i j : ℕ) (x y : A) → i < j → slice_get xs i ≡ Some x → slice_get xs j ≡ Some y → same x y ≡ false) → all_differ same xs ≡ true
differ_by_places same [] each = refl
differ_by_places same (x ∷ xs) each =
    and_from (not (list_any (same x) xs)) (all_differ same xs)
    (not_from_false _ (none_by_places (same x) xs (λ n y e. each 0 (suc n) x y (omega arith) refl e)))
    (differ_by_places same xs (λ i j y z l e f. each (suc i) (suc j) y z (omega (arith, l)) e f))

pub differ_at : {A : Type 0} (same : A → A → Bool) (xs : List A) → all_differ same xs ≡ true →
    (i j : ℕ) (x y : A) → i < j → slice_get xs i ≡ Some x → slice_get xs j ≡ Some y → same x y ≡ false
differ_at same [] all i j x y l e f = absurd (none-some x e)
differ_at same (z ∷ xs) all i zero x y l e f = absurd (omega (arith, l))
differ_at same (z ∷ xs) all zero (suc j) x y l e f =
    let parts = and_parts (not (list_any (same z) xs)) (all_differ same xs) all in
    ap (λ (t : _). same t y) (sym (same_Some z x e)) ∙ none_at (same z) xs (not-true _ parts.0) j y f
differ_at same (z ∷ xs) all (suc i) (suc j) x y l e f =
    let parts = and_parts (not (list_any (same z) xs)) (all_differ same xs) all in
    differ_at same xs parts.1 i j x y (omega (arith, l)) e f
