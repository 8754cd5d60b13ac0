-- Where a part of a text ends: words of units that pass a test, and numbers among them.
use Rattle.std.proofs.Common.{◌≡◌, ℕ, suc, length, ◌<◌, ◌^◌, Bool, true, not, List, [], ◌∷◌, ◌++◌, refl, arith, pos, negsuc, ℤ}
use Rattle.std.specs.Prelude.{FitsSigned, ◌==◌}
use Rattle.std.specs.Int.{w32, w64}
use Rattle.std.specs.List.{list_all}
use Rattle.std.specs.Fmt.{decimal, signed_decimal}
use Rattle.std.specs.Str.{all_ascii_digits}
use Rattle.std.specs.Char.{is_ascii_digit}
use Rattle.std.proofs.lemmas.Bool.{both_ways, not-true, and_parts, and_from, or_left}
use Rattle.std.proofs.lemmas.Fmt.{digits_decimal, decimal_injective, signed_decimal_injective, decimal_nonempty}
use Rattle.std.proofs.lemmas.Str.Parse.{numerals_by_value, tells_all_ascii_digits}
use Rattle.std.specs.Int.Signed.{mag}
use Rattle.kilim_run_journal.specs.Fronts.{is_number_unit, ends_at}

-- equal texts begin with one unit
pub first_units : (c d : ℕ) (x y : List ℕ) → c ∷ x ≡ d ∷ y → c ≡ d
first_units c d x y e = cc

-- words that end at a unit that fails the test are equal if the texts that begin with them are
pub parted : (test : ℕ → Bool) (a b x y : List ℕ) → list_all test a ≡ true → list_all test b ≡ true → ends_at test x ≡ true → ends_at test y ≡ true → a ++ x ≡ b ++ y → (a ≡ b) × (x ≡ y)
parted test [] [] x y ha hb hx hy e = (refl, e)
parted test [] (d ∷ b) x y ha hb hx hy e =
    let fails : not (test d) ≡ true = rw e at hx in
    absurd (both_ways (test d) (not-true (test d) fails) (and_parts (test d) (list_all test b) hb).0)
parted test (c ∷ a) [] x y ha hb hx hy e =
    let fails : not (test c) ≡ true = rw (← e) at hy in
    absurd (both_ways (test c) (not-true (test c) fails) (and_parts (test c) (list_all test a) ha).0)
parted test (c ∷ a) (d ∷ b) x y ha hb hx hy e =
    let head : c ≡ d = cc in
    let tail : a ++ x ≡ b ++ y = cc in
    let both : (a ≡ b) × (x ≡ y) = parted test a b x y (and_parts (test c) (list_all test a) ha).1 (and_parts (test d) (list_all test b) hb).1 hx hy tail in
    let front : a ≡ b = both.0 in
    (cc, both.1)

digits_pass : (ds : List ℕ) → all_ascii_digits ds ≡ true → list_all is_number_unit ds ≡ true
digits_pass [] h = refl
digits_pass (d ∷ ds) h =
    let both = and_parts (is_ascii_digit d) (all_ascii_digits ds) h in
    and_from (is_number_unit d) (list_all is_number_unit ds) (or_left (is_ascii_digit d) (d == 45) both.0) (digits_pass ds both.1)

-- a number is written in such units
pub decimal_pass : (n : ℕ) → n < 2 ^ 64 → list_all is_number_unit (decimal n) ≡ true
decimal_pass n h = digits_pass (decimal n) (digits_decimal (numerals_by_value (λ ds. all_ascii_digits ds ≡ true) tells_all_ascii_digits) n h)

-- so is a signed one
pub signed_pass : (z : ℤ) → mag z < 2 ^ 63 → list_all is_number_unit (signed_decimal z) ≡ true
signed_pass (pos n) h = decimal_pass n (omega arith)
signed_pass (negsuc n) h = decimal_pass (suc n) (omega arith)

-- equal texts that begin with a number, which ends there, begin with the same number
pub decimals_parted : (m n : ℕ) (x y : List ℕ) → m < 2 ^ 64 → n < 2 ^ 64 → ends_at is_number_unit x ≡ true → ends_at is_number_unit y ≡ true → decimal m ++ x ≡ decimal n ++ y → (m ≡ n) × (x ≡ y)
decimals_parted m n x y hm hn hx hy e =
    let both = parted is_number_unit (decimal m) (decimal n) x y (decimal_pass m hm) (decimal_pass n hn) hx hy e in
    (decimal_injective m n hm hn both.0, both.1)

-- the same of a signed number
pub signed_parted : (v z : ℤ) (x y : List ℕ) → mag v < 2 ^ 63 → mag z < 2 ^ 63 → ends_at is_number_unit x ≡ true → ends_at is_number_unit y ≡ true → signed_decimal v ++ x ≡ signed_decimal z ++ y → (v ≡ z) × (x ≡ y)
signed_parted v z x y hv hz hx hy e =
    let both = parted is_number_unit (signed_decimal v) (signed_decimal z) x y (signed_pass v hv) (signed_pass z hz) hx hy e in
    (signed_decimal_injective v z hv hz both.0, both.1)

-- the number of an Int is in range
pub fits_32 : (z : ℤ) → FitsSigned w32 z → mag z < 2 ^ 63
fits_32 z h = omega (arith, h.sfits)

-- and that of a Long
pub fits_64 : (z : ℤ) → FitsSigned w64 z → mag z < 2 ^ 63
fits_64 z h = omega (arith, h.sfits)

begins : (ds : List ℕ) → list_all is_number_unit ds ≡ true → 0 < length ds → (c : ℕ) × (cs : List ℕ) × (ds ≡ c ∷ cs) × (is_number_unit c ≡ true)
begins [] h long = absurd (omega arith)
begins (c ∷ cs) h long = (c, cs, refl, (and_parts (is_number_unit c) (list_all is_number_unit cs) h).0)

-- a number begins with a digit or a minus sign
pub signed_begins : (z : ℤ) → mag z < 2 ^ 63 → (c : ℕ) × (cs : List ℕ) × (signed_decimal z ≡ c ∷ cs) × (is_number_unit c ≡ true)
signed_begins (pos n) h = begins (decimal n) (decimal_pass n (omega arith)) (decimal_nonempty n (omega arith))
signed_begins (negsuc n) h = begins (45 ∷ decimal (suc n)) (signed_pass (negsuc n) h) (omega arith)
