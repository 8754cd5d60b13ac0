-- Loops that append something for each element.
use Rattle.std.proofs.Common.{◌≡◌, ℕ, zero, suc, ◌+◌, ◌<◌, ◌≤◌, List, [], ◌∷◌, ◌++◌, length, get_or, map, take, drop, drop-cons, refl, sym, ap, ◌∙◌, add-one, append_assoc, arith}
use Rattle.std.specs.List.{flat_map}
use Rattle.std.proofs.lemmas.List.{append-nil, drop_all, length-append}

-- so many elements, and one more
next_one : {X A : Type 0} (f : X → A) (xs : List X) (i : ℕ) (d : X) → i < length xs → map f (take i xs) ++ f (get_or xs i d) ∷ [] ≡ map f (take (suc i) xs)
next_one f [] i d lt = absurd (omega arith)
next_one f (x ∷ xs) zero d lt = refl
next_one {A = A} f (x ∷ xs) (suc i) d lt = ap (λ (t : List A). f x ∷ t) (next_one f xs i d (omega arith))

pub more : {X A : Type 0} (f : X → A) (before now next : List A) (xs : List X) (i : ℕ) (x d : X) (y : A) → i < length xs → x ≡ get_or xs i d → now ≡ before ++ map f (take i xs) → y ≡ f x
    → next ≡ now ++ y ∷ [] → next ≡ before ++ map f (take (i + 1) xs)
more {A = A} f before now next xs i x d y lt is so_far made step =
    rw add-one
    (step
    ∙ (ap (λ (t : List A). t ++ y ∷ []) so_far
    ∙ (append_assoc before (map f (take i xs)) (y ∷ []) ∙ ap (λ (t : List A). before ++ t) (ap (λ (z : A). map f (take i xs) ++ z ∷ []) (made ∙ ap f is) ∙ next_one f xs i d lt))))

pub copied_ahead : (now next whole xs : List ℕ) (i x : ℕ) → i < length xs → x ≡ get_or xs i 0 → now ++ drop i xs ≡ whole → next ≡ now ++ x ∷ [] → next ++ drop (i + 1) xs ≡ whole
copied_ahead now next whole xs i x lt is so_far step =
    let rest : List ℕ = drop (suc i) xs in
    rw add-one
    (ap (λ (t : List ℕ). t ++ rest) step
    ∙ (append_assoc now (x ∷ []) rest
    ∙ (ap (λ (z : ℕ). now ++ (z ∷ rest)) is ∙ (ap (λ (t : List ℕ). now ++ t) (sym (drop-cons xs i 0 lt)) ∙ so_far))))

pub mapped_ahead : {X A : Type 0} (f : X → A) (now next whole : List A) (xs : List X) (i : ℕ) (x d : X) → i < length xs → x ≡ get_or xs i d → now ++ map f (drop i xs) ≡ whole
    → next ≡ now ++ f x ∷ [] → next ++ map f (drop (i + 1) xs) ≡ whole
mapped_ahead {X = X} {A = A} f now next whole xs i x d lt is so_far step =
    let rest : List A = map f (drop (suc i) xs) in
    rw add-one
    (ap (λ (t : List A). t ++ rest) step
    ∙ (append_assoc now (f x ∷ []) rest
    ∙ (ap (λ (z : X). now ++ (f z ∷ rest)) is ∙ (ap (λ (ys : List X). now ++ map f ys) (sym (drop-cons xs i d lt)) ∙ so_far))))

pub one_longer : {A : Type 0} (now next : List A) (n : ℕ) (x : A) → length now ≡ n → next ≡ now ++ x ∷ [] → length next ≡ n + 1
one_longer now next n x is step = ap length step ∙ (length-append now (x ∷ []) ∙ ap (λ (k : ℕ). k + 1) is)
