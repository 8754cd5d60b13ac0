-- One text more behind those that were pushed.
use Rattle.std.proofs.Common.{◌≡◌, ◌∙◌, sym, ap, ℕ, ◌+◌, ◌<◌, List, [], ◌∷◌, ◌++◌, length, take, get_or, add-one, append_assoc}
use Rattle.std.proofs.Math.Seq.{take-suc}
use Rattle.std.proofs.lemmas.Grind.{flat_map-append}
use Rattle.std.proofs.lemmas.List.{append-nil}
use Rattle.std.specs.List.{flat_map}

one_more : {A : Type 0} (xs : List A) (i : ℕ) (d x : A) → i < length xs → x ≡ get_or xs i d → take (i + 1) xs ≡ take i xs ++ x ∷ []
one_more xs i d x lt is = ap (λ n. take n xs) (add-one i) ∙ (take-suc xs i d lt ∙ ap (λ y. take i xs ++ y ∷ []) (sym is))

pub text_more : {A : Type 0} (f : A → List ℕ) (xs : List A) (i : ℕ) (d x : A) (base out now : List ℕ) → i < length xs → x ≡ get_or xs i d → out ≡ base ++ flat_map f (take i xs) → now ≡ out ++ f x → now ≡ base ++ flat_map f (take (i + 1) xs)
text_more f xs i d x base out now lt is so more =
    let joined : flat_map f (take (i + 1) xs) ≡ flat_map f (take i xs) ++ f x =
    ap (flat_map f) (one_more xs i d x lt is) ∙ (flat_map-append f (take i xs) (x ∷ []) ∙ ap (λ t. flat_map f (take i xs) ++ t) (append-nil (f x))) in
    more ∙ (ap (λ t. t ++ f x) so ∙ (append_assoc base (flat_map f (take i xs)) (f x) ∙ ap (λ t. base ++ t) (sym joined)))
