-- Loops that write something for each element.
use Rattle.std.proofs.Common.{◌≡◌, ℕ, zero, suc, ◌+◌, ◌<◌, List, [], ◌∷◌, ◌++◌, length, get_or, take, sym, ap, subst, ◌∙◌, add-one, append_assoc, arith}
use Rattle.std.specs.List.{flat_map, AllByRecursion}
use Rattle.std.proofs.lemmas.List.{append-nil}
use Rattle.kilim_lemmas.proofs.Lists.{of_each}
use Rattle.kilim_lemmas.proofs.Walks.{next_text}

pub behind : {X A : Type 0} (f : X → List A) (before now next : List A) (xs : List X) (i : ℕ) (x d : X) → i < length xs → x ≡ get_or xs i d → now ≡ before ++ flat_map f (take i xs)
    → next ≡ now ++ f x → next ≡ before ++ flat_map f (take (i + 1) xs)
behind {X = X} {A = A} f before now next xs i x d lt is so_far step =
    rw add-one
    (step
    ∙ (ap (λ (t : List A). t ++ f x) so_far
    ∙ (append_assoc before (flat_map f (take i xs)) (f x) ∙ ap (λ (t : List A). before ++ t) (ap (λ (z : X). flat_map f (take i xs) ++ f z) is ∙ next_text f xs i d lt))))
