-- Lists gone through by an index, and what is made of what is left.
use Rattle.std.proofs.Common.{◌≡◌, List, add-one, ap, append_assoc, drop, drop-cons, get_or, length, suc, sym, ℕ, ◌++◌, ◌+◌, ◌<◌, ◌∙◌, ◌≤◌, [], arith, take, zero, ◌∷◌}
use Rattle.std.specs.List.{flat_map}
use Rattle.std.proofs.lemmas.List.{append-nil, drop_all}

pub ahead : {X A : Type 0} (f : X → List A) (now next whole : List A) (xs : List X) (i : ℕ) (x d : X) → i < length xs → x ≡ get_or xs i d → now ++ flat_map f (drop i xs) ≡ whole
    → next ≡ now ++ f x → next ++ flat_map f (drop (i + 1) xs) ≡ whole
ahead {X = X} {A = A} f now next whole xs i x d lt is so_far step =
    let rest : List A = flat_map f (drop (suc i) xs) in
    rw add-one
    (ap (λ (t : List A). t ++ rest) step
    ∙ (append_assoc now (f x) rest
    ∙ (ap (λ (z : X). now ++ (f z ++ rest)) is ∙ (ap (λ (ys : List X). now ++ flat_map f ys) (sym (drop-cons xs i d lt)) ∙ so_far))))

pub all_ahead : {X A : Type 0} (f : X → List A) (now whole : List A) (xs : List X) (i : ℕ) → length xs ≤ i → now ++ flat_map f (drop i xs) ≡ whole → now ≡ whole
all_ahead {X = X} {A = A} f now whole xs i le so_far = sym (append-nil now) ∙ (ap (λ (ys : List X). now ++ flat_map f ys) (sym (drop_all i xs le)) ∙ so_far)

pub all_made : {X A : Type 0} (rest : List X → List A) (now whole : List A) (xs : List X) (i : ℕ) → rest [] ≡ [] → length xs ≤ i → now ++ rest (drop i xs) ≡ whole → now ≡ whole
all_made {X = X} {A = A} rest now whole xs i none le so_far =
    sym (append-nil now) ∙ (ap (λ (t : List A). now ++ t) (sym none) ∙ (ap (λ (ys : List X). now ++ rest ys) (sym (drop_all i xs le)) ∙ so_far))

pub next_text : {X A : Type 0} (f : X → List A) (xs : List X) (i : ℕ) (d : X) → i < length xs → flat_map f (take i xs) ++ f (get_or xs i d) ≡ flat_map f (take (suc i) xs)
next_text f [] i d lt = absurd (omega arith)
next_text f (x ∷ xs) zero d lt = sym (append-nil (f x))
next_text {A = A} f (x ∷ xs) (suc i) d lt = append_assoc (f x) (flat_map f (take i xs)) (f (get_or xs i d)) ∙ ap (λ (t : List A). f x ++ t) (next_text f xs i d (omega arith))
