-- Lists, item by item.
use Rattle.std.proofs.Common.{◌≡◌, ◌⊎◌, inl, inr, ◌-◌, ℕ, zero, suc, ◌+◌, ◌<◌, ◌≤◌, List, [], ◌∷◌, ◌++◌, length, take, drop, reverse, map, slice_get, Some, refl, ap, sym, ◌∙◌, arith}
use Rattle.std.proofs.lemmas.List.{length-reverse, reverse-append}

next : {A : Type 0} (xs : List A) (n : ℕ) (x : A) → slice_get xs n ≡ Some x → take (suc n) xs ≡ take n xs ++ x ∷ []
next [] n x h = absurd (cc)
next {A} (y ∷ xs) zero x h = ap (λ (z : A). z ∷ []) (let e : y ≡ x = cc in e)
next {A} (y ∷ xs) (suc n) x h = ap (λ (zs : List A). y ∷ zs) (next xs n x h)

pub take_next : {A : Type 0} (xs : List A) (n : ℕ) (x : A) → slice_get xs n ≡ Some x → take (n + 1) xs ≡ take n xs ++ x ∷ []
take_next xs n x h = let one : suc n ≡ n + 1 = omega arith in ap (λ (k : ℕ). take k xs) (sym one) ∙ next xs n x h

reverse_first : {A : Type 0} (x : A) (xs : List A) → reverse (x ∷ xs) ≡ reverse xs ++ x ∷ []
reverse_first x xs = reverse-append (x ∷ []) xs

reverse_last : {A : Type 0} (xs : List A) (x : A) → reverse (xs ++ x ∷ []) ≡ x ∷ reverse xs
reverse_last xs x = reverse-append xs (x ∷ [])

pub reverse_take : {A : Type 0} (xs : List A) (n : ℕ) (x : A) → slice_get xs n ≡ Some x → reverse (take (n + 1) xs) ≡ x ∷ reverse (take n xs)
reverse_take xs n x h = ap reverse (take_next xs n x h) ∙ reverse_last (take n xs) x

pub take_whole : {A : Type 0} (xs : List A) (n : ℕ) → length xs ≤ n → take n xs ≡ xs
take_whole [] zero le = refl
take_whole [] (suc n) le = refl
take_whole (x ∷ xs) zero le = absurd (omega arith)
take_whole {A} (x ∷ xs) (suc n) le = ap (λ (zs : List A). x ∷ zs) (take_whole xs n (omega arith))

pub drop_whole : {A : Type 0} (xs : List A) (n : ℕ) → length xs ≤ n → drop n xs ≡ []
drop_whole [] zero le = refl
drop_whole [] (suc n) le = refl
drop_whole (x ∷ xs) zero le = absurd (omega arith)
drop_whole (x ∷ xs) (suc n) le = drop_whole xs n (omega arith)

-- ---- from the end

drop_past_of : {A : Type 0} (xs ys : List A) (n : ℕ) → n ≤ length xs → drop n (xs ++ ys) ≡ drop n xs ++ ys
drop_past_of [] ys zero le = refl
drop_past_of [] ys (suc n) le = absurd (omega arith)
drop_past_of (x ∷ xs) ys zero le = refl
drop_past_of (x ∷ xs) ys (suc n) le = drop_past_of xs ys n (omega arith)

le_or : (a b : ℕ) → (a ≤ b) ⊎ (b < a)
le_or zero b = inl (omega arith)
le_or (suc a) zero = inr (omega arith)
le_or (suc a) (suc b) = elim (le_or a b) [ inl h ↦ inl (omega arith) | inr h ↦ inr (omega arith) ]

-- behind the first so many of a list from its end stands the list without its last ones
pub reverse_drop : {A : Type 0} (xs : List A) (n : ℕ) → reverse (take (length xs - n) xs) ≡ drop n (reverse xs)
reverse_drop [] zero = refl
reverse_drop {A} [] (suc n) = let none : 0 - suc n ≡ 0 = omega arith in ap (λ (k : ℕ). reverse (take {A = A} k [])) none
reverse_drop {A} (x ∷ xs) n = elim (le_or n (length xs)) [
  | inl le ↦
      let count : suc (length xs) - n ≡ suc (length xs - n) = omega arith in
      ap (λ (k : ℕ). reverse (take k (x ∷ xs))) count
      ∙ (reverse_first x (take (length xs - n) xs)
      ∙ (ap (λ (ys : List A). ys ++ x ∷ []) (reverse_drop xs n)
      ∙ (sym (drop_past_of (reverse xs) (x ∷ []) n (let l = length-reverse xs in omega (arith, l)))
      ∙ ap (drop n) (sym (reverse_first x xs)))))
  | inr lt ↦
      let none : suc (length xs) - n ≡ 0 = omega arith in
      ap (λ (k : ℕ). reverse (take k (x ∷ xs))) none ∙ sym (drop_whole (reverse (x ∷ xs)) n (let l = length-reverse (x ∷ xs) in omega (arith, l)))
]

map_behind : {A B : Type 0} (f : A → B) (xs : List A) (x : A) → map f (xs ++ x ∷ []) ≡ map f xs ++ f x ∷ []
map_behind f [] x = refl
map_behind {A} {B} f (y ∷ xs) x = ap (λ (zs : List B). f y ∷ zs) (map_behind f xs x)

pub map_next : {A B : Type 0} (f : A → B) (xs : List A) (n : ℕ) (x : A) → slice_get xs n ≡ Some x → map f (take n xs) ++ f x ∷ [] ≡ map f (take (n + 1) xs)
map_next f xs n x h = sym (ap (map f) (take_next xs n x h) ∙ map_behind f (take n xs) x)

map_reverse : {A B : Type 0} (f : A → B) (xs : List A) → reverse (map f (reverse xs)) ≡ map f xs
map_reverse f [] = refl
map_reverse {A} {B} f (x ∷ xs) =
    ap (λ (ys : List A). reverse (map f ys)) (reverse_first x xs)
    ∙ (ap reverse (map_behind f (reverse xs) x) ∙ (reverse_last (map f (reverse xs)) (f x) ∙ ap (λ (zs : List B). f x ∷ zs) (map_reverse f xs)))

pub map_around : {A B : Type 0} (f : A → B) (xs ys : List A) → reverse xs ≡ ys → map f xs ≡ reverse (map f ys)
map_around {A} f xs ys e = sym (map_reverse f xs) ∙ ap (λ (zs : List A). reverse (map f zs)) e
