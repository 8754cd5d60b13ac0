-- Lists, item by item.
use Rattle.std.proofs.Common.{◌≡◌, ℕ, zero, suc, ◌+◌, ◌-◌, ◌<◌, ◌≤◌, List, [], ◌∷◌, ◌++◌, length, take, drop, slice_get, Some, refl, ap, sym, ◌∙◌, arith}
use Rattle.std.specs.Prelude.{sum_by}
use Rattle.std.proofs.lemmas.List.Sums.{sum_by-append}

next : {A : Type 0} (xs : List A) (n : ℕ) (x : A) → slice_get xs n ≡ Some x → take (suc n) xs ≡ take n xs ++ x ∷ []
next [] n x h = absurd (cc)
next {A} (y ∷ xs) zero x h = ap (λ (z : A). z ∷ []) (let e : y ≡ x = cc in e)
next {A} (y ∷ xs) (suc n) x h = ap (λ (zs : List A). y ∷ zs) (next xs n x h)

pub take_next : {A : Type 0} (xs : List A) (n : ℕ) (x : A) → slice_get xs n ≡ Some x → take (n + 1) xs ≡ take n xs ++ x ∷ []
take_next xs n x h = let one : suc n ≡ n + 1 = omega arith in ap (λ (k : ℕ). take k xs) (sym one) ∙ next xs n x h

-- one more copy
pub copied_more : {A : Type 0} (xs : List A) (n : ℕ) (x y : A) (done new : List A) → slice_get xs n ≡ Some x → done ≡ take n xs → y ≡ x → new ≡ done ++ y ∷ [] → new ≡ take (n + 1) xs
copied_more {A} xs n x y done new there is same e =
    e ∙ (ap (λ (z : A). done ++ z ∷ []) same ∙ (ap (λ (zs : List A). zs ++ x ∷ []) is ∙ sym (take_next xs n x there)))

sum_behind : {A : Type 0} (f : A → ℕ) (xs : List A) (x : A) → sum_by f (xs ++ x ∷ []) ≡ sum_by f xs + f x
sum_behind f xs x = let one : 0 + f x ≡ f x = omega arith in sum_by-append f xs (x ∷ []) ∙ ap (λ (n : ℕ). sum_by f xs + n) one

pub sum_more : {A : Type 0} (f : A → ℕ) (xs : List A) (n : ℕ) (x : A) (sum : ℕ) → slice_get xs n ≡ Some x → sum ≡ sum_by f (take n xs) → sum + f x ≡ sum_by f (take (n + 1) xs)
sum_more f xs n x sum there is = ap (λ (k : ℕ). k + f x) is ∙ sym (ap (sum_by f) (take_next xs n x there) ∙ sum_behind f (take n xs) x)
