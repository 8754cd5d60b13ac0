-- A number that is written digit by digit.
use Rattle.std.proofs.Common.{◌≡◌, ℕ, ◌+◌, ◌<◌, ◌≤◌, ◌^◌, ◌/◌, ◌%◌, List, [], ◌∷◌, ◌++◌, Result, Ok, Err, refl, sym, ap, ◌∙◌}
use Rattle.std.specs.Prelude.{OnOk}
use Rattle.std.specs.Fmt.{decimal}
use Rattle.std.proofs.lemmas.Fmt.{decimal_step}

joined : (a b c : List ℕ) → (a ++ b) ++ c ≡ a ++ (b ++ c)
joined [] b c = refl
joined (x ∷ xs) b c = ap (λ l. x ∷ l) (joined xs b c)

-- behind the digits in front of the last one comes the last one
pub last_digit : {A E : Type 0} (r : Result A E) (before most after : List ℕ) (n : ℕ) → 10 ≤ n → n < 2 ^ 64 → most ≡ before ++ decimal (n / 10) → OnOk r (after ≡ most ++ (48 + n % 10) ∷ []) → OnOk r (after ≡ before ++ decimal n)
last_digit (Ok x) before most after n large fits e w = w ∙ (ap (λ l. l ++ (48 + n % 10) ∷ []) e ∙ (joined before (decimal (n / 10)) ((48 + n % 10) ∷ []) ∙ ap (λ l. before ++ l) (sym (decimal_step n large fits))))
last_digit (Err x) before most after n large fits e w = tt
