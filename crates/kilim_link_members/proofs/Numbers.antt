-- Ids that are counted up.
use Rattle.std.proofs.Common.{◌≡◌, ℕ, ◌+◌, List, [], ◌∷◌, ◌++◌, map, sym, ap, ◌∙◌, arith}
use Rattle.std.specs.List.{range_with_len}
use Rattle.std.proofs.lemmas.List.FromFn.{map-range_with_len_more}

pub one_more : {X : Type 0} (f : ℕ → X) (first n number next : ℕ) (ids new : List X) → number ≡ first + n → ids ≡ map f (range_with_len first n) → next ≡ number + 1 → new ≡ ids ++ f number ∷ []
    → (next ≡ first + (n + 1)) × (new ≡ map f (range_with_len first (n + 1)))
one_more f first n number next ids new is e after pushed =
    (omega arith, pushed ∙ (ap (λ xs. xs ++ f number ∷ []) e ∙ sym (map-range_with_len_more f first n number (sym is))))
