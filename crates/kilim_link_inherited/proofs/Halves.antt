-- Keys by their lowest digit and the rest.
use Rattle.std.proofs.Common.{◌≡◌, ℕ, suc, ◌+◌, ◌/◌, ◌%◌, ◌^◌, ◌<◌, ◌==◌, false, sym, ap, ◌∙◌, arith, eq-eqb, inl, inr}
use Rattle.std.proofs.lemmas.Bool.{ne_eqb, eqb-false}
use Rattle.std.proofs.lemmas.Bool.Decides.{eqb_tells}
use Rattle.std.proofs.lemmas.Nat.{shr_below}

-- what is left fits one level less
pub half_fits : (d k : ℕ) → k < 2 ^ suc d → k / 2 < 2 ^ d
half_fits d k lt = shr_below k d 1 (let e : d + 1 ≡ suc d = omega arith in rw e lt)

-- keys with the same lowest digit are the same where the rests are
pub same_half : (a b : ℕ) → a % 2 ≡ b % 2 → (a / 2 == b / 2) ≡ (a == b)
same_half a b same =
    elim (eqb_tells (a / 2) (b / 2)) [
      | inl is ↦ is.0 ∙ sym (eq-eqb a b (let e = is.1 in omega arith))
      | inr isnt ↦ isnt.0 ∙ sym (ne_eqb a b (λ e. isnt.1 (ap (λ n. n / 2) e)))
    ]

-- keys with other lowest digits are apart
pub apart : (a b : ℕ) → (a % 2 ≡ b % 2 → ⊥) → (a == b) ≡ false
apart a b differ = ne_eqb a b (λ e. differ (ap (λ n. n % 2) e))

-- the lowest digit is 0 or 1
pub is_odd : (a : ℕ) → (a % 2 == 0) ≡ false → a % 2 ≡ 1
is_odd a isnt = let ne = eqb-false (a % 2) 0 isnt in omega arith
