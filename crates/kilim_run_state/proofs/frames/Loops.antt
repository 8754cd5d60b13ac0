-- Loops that append a value in each turn.
use Rattle.std.proofs.Common.{◌≡◌, ℕ, zero, suc, ◌+◌, ◌<◌, add-one, append_assoc, List, [], ◌∷◌, ◌++◌, length, get_or, take, replicate, refl, sym, ap, ◌∙◌}
use Rattle.std.proofs.lemmas.List.{take_more}

pub copied : {A : Type 0} (now next xs : List A) (i : ℕ) (x d : A) → i < length xs → x ≡ get_or xs i d → now ≡ take i xs → next ≡ now ++ x ∷ [] → next ≡ take (i + 1) xs
copied {A} now next xs i x d lt is so_far step =
    step ∙ (ap (λ (z : A). now ++ z ∷ []) is ∙ (ap (λ (zs : List A). zs ++ get_or xs i d ∷ []) so_far ∙ sym (take_more xs i d lt)))

one_behind : {A : Type 0} (n : ℕ) (x : A) → replicate n x ++ x ∷ [] ≡ replicate (suc n) x
one_behind zero x = refl
one_behind {A} (suc n) x = ap (λ (xs : List A). x ∷ xs) (one_behind n x)

pub repeated : {A : Type 0} (before now next : List A) (n : ℕ) (x : A) → now ≡ before ++ replicate n x → next ≡ now ++ x ∷ [] → next ≡ before ++ replicate (n + 1) x
repeated {A} before now next n x so_far step =
    rw add-one
    (step ∙ (ap (λ (xs : List A). xs ++ x ∷ []) so_far ∙ (append_assoc before (replicate n x) (x ∷ []) ∙ ap (λ (xs : List A). before ++ xs) (one_behind n x))))
