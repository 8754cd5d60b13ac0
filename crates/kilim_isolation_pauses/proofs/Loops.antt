-- Loops that append what each element gives, by what is left, and loops that look for an element.
use Rattle.std.proofs.Common.{◌≡◌, ℕ, ◌+◌, ◌<◌, ◌≤◌, Bool, true, false, ◌||◌, List, [], ◌∷◌, ◌++◌, length, get_or, drop, sym, ap, ◌∙◌, append_assoc}
use Rattle.std.specs.List.{list_any}
use Rattle.std.proofs.lemmas.List.{append-nil, drop_all, drop_more}

pub rest_more : {X A : Type 0} (all : List X → List A) (gives : X → List A) (now next total : List A) (xs : List X) (i : ℕ) (x d : X) → ((y : X) (ys : List X) → all (y ∷ ys) ≡ gives y ++ all ys) → i < length xs →
    x ≡ get_or xs i d → now ++ all (drop i xs) ≡ total → next ≡ now ++ gives x → next ++ all (drop (i + 1) xs) ≡ total
rest_more {X} {A} all gives now next total xs i x d steps lt is so_far step =
    let rest : List A = all (drop (i + 1) xs) in
    ap (λ (v : List A). v ++ rest) (step ∙ ap (λ (z : X). now ++ gives z) is)
    ∙ (append_assoc now (gives (get_or xs i d)) rest
    ∙ (ap (λ (v : List A). now ++ v) (sym (steps (get_or xs i d) (drop (i + 1) xs))) ∙ (ap (λ (z : List X). now ++ all z) (sym (drop_more xs i d lt)) ∙ so_far)))

pub rest_end : {X A : Type 0} (all : List X → List A) (now total : List A) (xs : List X) (i : ℕ) → all [] ≡ [] → length xs ≤ i → now ++ all (drop i xs) ≡ total → now ≡ total
rest_end {X} {A} all now total xs i none le so_far = sym (append-nil now) ∙ (ap (λ (v : List A). now ++ v) (sym (ap all (drop_all i xs le) ∙ none)) ∙ so_far)

-- an element that doesn't pass
pub any_more : {X : Type 0} (test : X → Bool) (xs : List X) (i : ℕ) (x d : X) (b : Bool) → i < length xs → x ≡ get_or xs i d → test x ≡ false → list_any test (drop i xs) ≡ b → list_any test (drop (i + 1) xs) ≡ b
any_more {X} test xs i x d b lt is fails so_far =
    sym (ap (list_any test) (drop_more xs i d lt) ∙ ap (λ (t : Bool). t || list_any test (drop (i + 1) xs)) (ap test (sym is) ∙ fails)) ∙ so_far

-- one that passes
pub any_here : {X : Type 0} (test : X → Bool) (xs : List X) (i : ℕ) (x d : X) (b : Bool) → i < length xs → x ≡ get_or xs i d → test x ≡ true → list_any test (drop i xs) ≡ b → true ≡ b
any_here {X} test xs i x d b lt is passes so_far =
    sym (ap (list_any test) (drop_more xs i d lt) ∙ ap (λ (t : Bool). t || list_any test (drop (i + 1) xs)) (ap test (sym is) ∙ passes)) ∙ so_far

pub any_end : {X : Type 0} (test : X → Bool) (xs : List X) (i : ℕ) (b : Bool) → length xs ≤ i → list_any test (drop i xs) ≡ b → false ≡ b
any_end test xs i b le so_far = sym (ap (list_any test) (drop_all i xs le)) ∙ so_far
