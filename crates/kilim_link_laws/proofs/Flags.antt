-- The flags of a method: one that isn't native has no body exactly where it is abstract.
use Rattle.std.proofs.Common.{◌≡◌, ◌≢◌, ℕ, zero, suc, ◌^◌, ◌<◌, ◌≤◌, ◌-◌, min, false, not, ◌==◌, bit_and, refl, sym, ap, ◌∙◌, ⊎_elim, arith, eq-eqb, eqb-true, ne_eqb}
use Rattle.std.specs.Int.{bit_at}
use Rattle.std.proofs.lemmas.Bool.{cases_eq, cases_lt, not-false}
use Rattle.std.proofs.lemmas.Nat.Bits.{bit_at-pow_other, bit_at-pow_same, bit_at-zero, bit_at_above, bit_at_and, bit_at_cat_high, bit_at_cat_low, same_from_bits}
use Rattle.kilim_class_file.specs.Parts.{is_bodiless}
use Rattle.kilim_link_spec.specs.World.{acc_abstract, acc_native, has_flag}

-- no bit is set but these
bit_of_five : (d : ℕ) → d ≢ 0 → d ≢ 2 → bit_at 5 d ≡ 0
bit_of_five zero first third = absurd (first refl)
bit_of_five (suc zero) first third = refl
bit_of_five (suc (suc zero)) first third = absurd (third refl)
bit_of_five (suc (suc (suc d))) first third = bit_at_above 5 3 (suc (suc (suc d))) (omega arith) (omega arith)

other_bits : (i : ℕ) → i ≢ 8 → i ≢ 10 → bit_at 1280 i ≡ 0
other_bits i eighth tenth =
    ⊎_elim (λ (low : i < 8). bit_at_cat_low 5 8 0 i low ∙ bit_at-zero i)
    (λ (high : 8 ≤ i). bit_at_cat_high 5 8 0 i (omega arith) high ∙ bit_of_five (i - 8) (λ e. eighth (omega (arith, e, high))) (λ e. tenth (omega (arith, e, high))))
    (cases_lt i 8)

min_one : (x a b : ℕ) → x ≡ min a b → b ≡ 1 → x ≡ 0 → a ≡ 0
min_one x a b is one none = omega arith

min_left : (x a b : ℕ) → x ≡ min a b → a ≡ 0 → x ≡ 0
min_left x a b is none = omega arith

min_right : (x a b : ℕ) → x ≡ min a b → b ≡ 0 → x ≡ 0
min_right x a b is none = omega arith

-- a flag that isn't set
flag_bit : (k flags : ℕ) → bit_and flags (2 ^ k) ≡ 0 → bit_at flags k ≡ 0
flag_bit k flags e = min_one _ _ _ (bit_at_and flags (2 ^ k) k) (bit_at-pow_same k) (ap (λ (n : ℕ). bit_at n k) e ∙ bit_at-zero k)

bit_flag : (k flags : ℕ) → bit_at flags k ≡ 0 → bit_and flags (2 ^ k) ≡ 0
bit_flag k flags e = same_from_bits (bit_and flags (2 ^ k)) 0 (λ i.
    let both = bit_at_and flags (2 ^ k) i in
    ⊎_elim (λ (same : i ≡ k). min_left _ _ _ both (ap (bit_at flags) same ∙ e)) (λ (other : i ≡ k → ⊥). min_right _ _ _ both (bit_at-pow_other k i other)) (cases_eq i k)
    ∙ sym (bit_at-zero i))

bodiless_bit : (flags : ℕ) → bit_and flags 1280 ≡ 0 → bit_at flags 10 ≡ 0
bodiless_bit flags e = min_one _ _ _ (bit_at_and flags 1280 10) refl (ap (λ (n : ℕ). bit_at n 10) e ∙ bit_at-zero 10)

bits_bodiless : (flags : ℕ) → bit_at flags 8 ≡ 0 → bit_at flags 10 ≡ 0 → bit_and flags 1280 ≡ 0
bits_bodiless flags eighth tenth = same_from_bits (bit_and flags 1280) 0 (λ i.
    let both = bit_at_and flags 1280 i in
    ⊎_elim (λ (same : i ≡ 8). min_left _ _ _ both (ap (bit_at flags) same ∙ eighth))
    (λ (other : i ≡ 8 → ⊥). ⊎_elim (λ (same : i ≡ 10). min_left _ _ _ both (ap (bit_at flags) same ∙ tenth))
    (λ (next : i ≡ 10 → ⊥). min_right _ _ _ both (other_bits i other next)) (cases_eq i 10)) (cases_eq i 8)
    ∙ sym (bit_at-zero i))

-- one test where the numbers are 0 together
same_zero : (x y : ℕ) → (x ≡ 0 → y ≡ 0) → (y ≡ 0 → x ≡ 0) → (x == 0) ≡ (y == 0)
same_zero x y there back =
    ⊎_elim (λ (zero : x ≡ 0). eq-eqb x 0 zero ∙ sym (eq-eqb y 0 (there zero)))
    (λ (more : x ≡ 0 → ⊥). ne_eqb x 0 more ∙ sym (ne_eqb y 0 (λ e. more (back e)))) (cases_eq x 0)

pub bodiless_is_abstract : (flags : ℕ) → has_flag acc_native flags ≡ false → is_bodiless flags ≡ has_flag acc_abstract flags
bodiless_is_abstract flags plain =
    let native : bit_at flags 8 ≡ 0 = flag_bit 8 flags (eqb-true (bit_and flags 256) 0 (not-false _ plain)) in
    ap not (same_zero (bit_and flags 1280) (bit_and flags 1024) (λ e. bit_flag 10 flags (bodiless_bit flags e)) (λ e. bits_bodiless flags native (flag_bit 10 flags e)))
