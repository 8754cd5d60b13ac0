-- What stands behind a front.
use Rattle.std.proofs.Common.{◌≡◌, ℕ, true, false, List, Option, Some, None, refl, ap, ◌∙◌, drop, Bor}
use Rattle.std.specs.Prelude.{MatchOption}
use Rattle.std.specs.Option.{option_copied}
use Rattle.std.specs.Str.Pattern.{FindsTextPrefix, StripsPrefix}
use Rattle.std.proofs.lemmas.Str.Pattern.{starts_text}
use Rattle.kilim_command.specs.grammar.Words.{value_behind}

-- what `strip_prefix` answers
pub behind_text : (front word : List ℕ) (r : Option (Bor (List ℕ))) → MatchOption r (FindsTextPrefix front word None) (λ x. StripsPrefix (FindsTextPrefix front) word x.now) → option_copied r ≡ value_behind front word
behind_text front word None h = let e = starts_text false front word h in rw (← e) refl
behind_text front word (Some x) h =
    let e = starts_text true front word (h.0, h.1, rw h.1.0 h.1.2) in
    rw (← e) (ap (λ (bs : List ℕ). Some bs) (h.2 ∙ ap (λ (n : ℕ). drop n word) h.1.0))
