-- The target of a match, entry by entry.
use Rattle.std.proofs.Common.{◌≡◌, ◌∙◌, sym, ap, refl, cond, Decides, ℕ, ◌+◌, ◌<◌, ℤ, Bool, true, false, List, length, drop, get_or}
use Rattle.std.proofs.lemmas.List.{drop_more}
use Rattle.std.proofs.lemmas.Bool.Decides.{Decides-int_eq}
use Rattle.std.specs.Ordering.{int_eq}
use Rattle.kilim_run_machine.specs.Does.{match_target}

pub differ : (b : Bool) (x y : ℤ) → Decides b (x ≡ y) → (x ≡ y → ⊥) → b ≡ false
differ true x y same not = absurd (not (same.0 refl))
differ false x y same not = refl

-- an entry with another key is passed over
pub match_on : (ms : List (ℤ × ℕ)) (i : ℕ) (key : ℤ) (default : ℕ) (d : ℤ × ℕ) → i < length ms → ((get_or ms i d).0 ≡ key → ⊥) → match_target (drop (i + 1) ms) key default ≡ match_target (drop i ms) key default
match_on ms i key default d within other =
    let no : int_eq (get_or ms i d).0 key ≡ false = differ (int_eq (get_or ms i d).0 key) (get_or ms i d).0 key (Decides-int_eq (get_or ms i d).0 key) other in
    sym (ap (λ (ys : List (ℤ × ℕ)). match_target ys key default) (drop_more ms i d within) ∙ ap (λ (b : Bool). cond b (get_or ms i d).1 (match_target (drop (i + 1) ms) key default)) no)
