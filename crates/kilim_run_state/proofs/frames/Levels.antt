-- The first elements of a list, the last of them first, where one is put behind them or taken off.
use Rattle.std.proofs.Common.{◌≡◌, ◌∙◌, sym, ap, refl, ℕ, zero, suc, ◌+◌, ◌<◌, ◌≤◌, List, [], ◌∷◌, ◌++◌, Some, length, take, reverse, slice_get, set, add-one, arith}
use Rattle.std.proofs.lemmas.List.{reverse-append}

before_set : {A : Type 0} (xs : List A) (n : ℕ) (x : A) → take n (set xs n x) ≡ take n xs
before_set [] zero x = refl
before_set [] (suc n) x = refl
before_set (y ∷ xs) zero x = refl
before_set (y ∷ xs) (suc n) x = ap (λ (zs : List _). y ∷ zs) (before_set xs n x)

behind_set : {A : Type 0} (xs : List A) (n : ℕ) (x : A) → n < length xs → take (suc n) (set xs n x) ≡ take n xs ++ x ∷ []
behind_set [] n x less = absurd (omega (arith, less))
behind_set (y ∷ xs) zero x less = refl
behind_set (y ∷ xs) (suc n) x less = let less' : n < length xs = omega (arith, less) in ap (λ (zs : List _). y ∷ zs) (behind_set xs n x less')

one_more : {A : Type 0} (xs : List A) (n : ℕ) (x : A) → slice_get xs n ≡ Some x → take (suc n) xs ≡ take n xs ++ x ∷ []
one_more [] n x there = cc
one_more (y ∷ xs) zero x there = grind (arith, there)
one_more (y ∷ xs) (suc n) x there = ap (λ (zs : List _). y ∷ zs) (one_more xs n x there)

last_first : {A : Type 0} (xs : List A) (x : A) → reverse (xs ++ x ∷ []) ≡ x ∷ reverse xs
last_first xs x = reverse-append xs (x ∷ [])

-- one is put behind the first so many
pub put_behind : {A : Type 0} (xs ys : List A) (n : ℕ) (x : A) → n < length xs → ys ≡ set xs n x → reverse (take (n + 1) ys) ≡ x ∷ reverse (take n xs)
put_behind xs ys n x less is =
    ap (λ (zs : List _). reverse (take (n + 1) zs)) is
    ∙ ap (λ (k : ℕ). reverse (take k (set xs n x))) (add-one n)
    ∙ ap reverse (behind_set xs n x less)
    ∙ last_first (take n xs) x

-- the last of the first so many is taken off, and another stands in its place
pub taken_off : {A : Type 0} (xs ys : List A) (m n : ℕ) (x y : A) → m ≡ n + 1 → slice_get xs n ≡ Some x → ys ≡ set xs n y → reverse (take m xs) ≡ x ∷ reverse (take n ys)
taken_off xs ys m n x y long there is =
    ap (λ (k : ℕ). reverse (take k xs)) (long ∙ add-one n)
    ∙ ap reverse (one_more xs n x there)
    ∙ last_first (take n xs) x
    ∙ ap (λ (zs : List _). x ∷ reverse zs) (sym (ap (take n) is ∙ before_set xs n y))
