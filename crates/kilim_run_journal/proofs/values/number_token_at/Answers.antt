use Rattle.std.proofs.Common.{◌≡◌, ◌∙◌, sym, ap, subst, arith, refl, append_assoc, ℕ, ℤ, List, ◌∷◌, ◌++◌, codes, true, false}
use Rattle.std.specs.Fmt.{signed_decimal}
use Rattle.std.specs.Int.{w32, w64}
use Rattle.std.specs.Prelude.{FitsSigned}
use Rattle.kilim_run_state.specs.declared.value.Token.TheVariants.{Long}
use Rattle.kilim_run_journal.specs.Text.{token_text}
use Rattle.kilim_run_journal.specs.Fronts.{AfterValue}
use Rattle.kilim_run_journal.proofs.Tokens.{is_long, after_is_long, after_number}
use Rattle.kilim_run_journal.proofs.Readings.{same_signed}
use Rattle.kilim_run_journal.proofs.values.number_token_at.Goals as goal

wider : (z : ℤ) → FitsSigned w32 z → FitsSigned w64 z
wider z h = record { sfits = omega (arith, h.sfits) }

-- a long's number is followed by its letter
long_text : (n : ℤ) (x bytes : List ℕ) → bytes ≡ token_text (Long n) ++ x → bytes ≡ signed_decimal n ++ (76 ∷ x)
long_text n x bytes e = e ∙ append_assoc (signed_decimal n) (codes "L") x

-- and an int's isn't
not_long : (x behind : List ℕ) → AfterValue x → x ≡ 76 ∷ behind → ⊥
not_long x behind ended e = let both : false ≡ true = sym (after_is_long x ended) ∙ ap is_long e in cc

pub returns-in_default-clause-int : goal.returns-in_default-clause-int
returns-in_default-clause-int c n x fits ended e = c.in_default.ensures n x (wider n fits) (after_number x ended) e

pub returns-in_default-clause-long : goal.returns-in_default-clause-long
returns-in_default-clause-long c n x fits e = c.in_default.ensures n (76 ∷ x) fits refl (long_text n x _ e)

pub returns-in-Some-after-clause-int : goal.returns-in-Some-after-clause-int
returns-in-Some-after-clause-int c n x fits ended e =
    let found = c.in-Some.ensures n x (wider n fits) (after_number x ended) e in
    absurd (not_long x _ ended (sym found.1 ∙ c.in-Some-after.ensures.some))

pub returns-in-Ok-clause-long : goal.returns-in-Ok-clause-long
returns-in-Ok-clause-long c n x fits e = absurd (c.in-None.ensures.right x (c.in-Some.ensures n (76 ∷ x) fits refl (long_text n x _ e)).1)

pub returns-in-Err-clause-long : goal.returns-in-Err-clause-long
returns-in-Err-clause-long c n x fits e = absurd (c.in-None.ensures.right x (c.in-Some.ensures n (76 ∷ x) fits refl (long_text n x _ e)).1)

pub returns-in-Err-clause-int : goal.returns-in-Err-clause-int
returns-in-Err-clause-int c n x fits ended e =
    let found = c.in-Some.ensures n x (wider n fits) (after_number x ended) e in
    absurd (c.in-Err.ensures (subst (λ (z : ℤ). FitsSigned w32 z) (sym (same_signed _ n found.0 (wider n fits))) fits))
