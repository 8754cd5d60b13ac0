-- The mark of locals.
use Rattle.std.proofs.Common.{◌≡◌, ℕ, zero, suc, ◌+◌, ◌<◌, refl, ap, sym, ◌∙◌, arith, List, [], ◌∷◌, ◌++◌, length, drop, get_or, replicate, Option, None}
use Rattle.std.proofs.lemmas.List.{drop_more}
use Rattle.kilim_isolation.specs.Mark.{local_mixed, locals_mixed}

pub local_on : (xs : List (Option ℕ)) (mark next k : ℕ) (d : Option ℕ) → k < length xs → next ≡ local_mixed mark k (get_or xs k d) → locals_mixed next (k + 1) (drop (k + 1) xs) ≡ locals_mixed mark k (drop k xs)
local_on xs mark next k d lt is =
    ap (λ (m : ℕ). locals_mixed m (k + 1) (drop (k + 1) xs)) is
    ∙ ap (λ (n : ℕ). locals_mixed (local_mixed mark k (get_or xs k d)) n (drop (k + 1) xs)) (let n : k + 1 ≡ suc k = omega arith in n)
    ∙ sym (ap (locals_mixed mark k) (drop_more xs k d lt))

none_mixed : (mark k more : ℕ) → locals_mixed mark k (replicate more None) ≡ mark
none_mixed mark k zero = refl
none_mixed mark k (suc more) = none_mixed mark (suc k) more

-- slots behind that name nothing change no mark
pub tail_mixed : (front : List (Option ℕ)) (mark k more : ℕ) → locals_mixed mark k front ≡ locals_mixed mark k (front ++ replicate more None)
tail_mixed [] mark k more = sym (none_mixed mark k more)
tail_mixed (x ∷ front) mark k more = tail_mixed front (local_mixed mark k x) (suc k) more
