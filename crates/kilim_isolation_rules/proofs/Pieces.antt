-- Names that are copied below others, piece by piece.
use Rattle.std.proofs.Common.{◌≡◌, ℕ, List, ◌++◌, Option, take, drop, ap, ◌∙◌, append_assoc}
use Rattle.kilim_isolation_rules.specs.Rules.{copied}

pub copied_by : (n m : ℕ) (xs top others next behind one two three four : List (Option ℕ)) → top ≡ take n xs → others ≡ drop n xs → next ≡ take m others → behind ≡ drop m others → one ≡ top → two ≡ one ++ next → three ≡ two ++ top → four ≡ three ++ behind
    → four ≡ copied n m xs
copied_by n m xs top others next behind one two three four t o e b a1 a2 a3 a4 =
    a4 ∙ (ap (λ (z : List (Option ℕ)). z ++ behind) (a3 ∙ ap (λ (z : List (Option ℕ)). z ++ top) (a2 ∙ ap (λ (z : List (Option ℕ)). z ++ next) a1))
    ∙ (append_assoc (top ++ next) top behind ∙ (append_assoc top next (top ++ behind)
    ∙ (ap (λ (z : List (Option ℕ)). z ++ (next ++ (z ++ behind))) t
    ∙ (ap (λ (z : List (Option ℕ)). take n xs ++ (z ++ (take n xs ++ behind))) (e ∙ ap (take m) o)
    ∙ ap (λ (z : List (Option ℕ)). take n xs ++ (take m (drop n xs) ++ (take n xs ++ z))) (b ∙ ap (drop m) o))))))
