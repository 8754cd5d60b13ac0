-- Numbers that are read.
use Rattle.std.proofs.Common.{◌≡◌, ℕ, ◌-◌, ◌≤◌, ◌<◌, ◌^◌, Bool, true, false, cond, nat_lt, nat_le, List, [], ◌∷◌, drop, Some, None, refl, sym, ap, subst, ◌∙◌, arith}
use Rattle.std.specs.Prelude.{◌&&◌}
use Rattle.std.specs.List.{list_all}
use Rattle.std.specs.Str.Parse.{AllDigits, IsNumeral, digits_value, without_leading_plus}
use Rattle.std.specs.Char.{digit_value}
use Rattle.std.proofs.lemmas.Bool.{and_parts, leb-true, le-ltb, lt-leb, lt-ltb, ltb-false, ltb-true, ne_eqb}
use Rattle.kilim_command.specs.grammar.Numbers.{in_range, is_digit, is_number, number_in}

picked_false : {A : Type 0} (z : Bool) (x y : A) → z ≡ false → cond z x y ≡ y
picked_false true x y e = absurd (cc)
picked_false false x y e = refl

picked_true : {A : Type 0} (z : Bool) (x y : A) → z ≡ true → cond z x y ≡ x
picked_true true x y e = refl
picked_true false x y e = absurd (cc)

le_of : (m n : ℕ) → nat_le m n ≡ true → m ≤ n
le_of m n e = leb-true m n e

value_of_digit : (b : ℕ) → is_digit b ≡ true → digit_value b < 10
value_of_digit b e =
    let s = and_parts (nat_le 48 b) (nat_le b 57) e in
    let lo = le_of 48 b s.0 in
    let hi = le_of b 57 s.1 in
    let a : digit_value b ≡ b - 48 = picked_false (nat_lt b 48) 36 _ (le-ltb b 48 lo) ∙ picked_true (nat_lt b 58) (b - 48) _ (lt-ltb b 58 (omega (arith, hi))) in
    omega (arith, a, lo, hi)

digits_are : (bs : List ℕ) → list_all is_digit bs ≡ true → AllDigits 10 bs
digits_are [] e = tt
digits_are (b ∷ bs) e = let s = and_parts (is_digit b) (list_all is_digit bs) e in (value_of_digit b s.0, digits_are bs s.1)

no_plus : (bs : List ℕ) → is_number bs ≡ true → without_leading_plus bs ≡ bs
no_plus [] e = refl
no_plus (b ∷ bs) e =
    let s = and_parts (is_digit b) (list_all is_digit bs) (and_parts (list_all is_digit (b ∷ bs)) _ e).0 in
    let lo = le_of 48 b (and_parts (nat_le 48 b) (nat_le b 57) s.0).0 in
    ap (λ (z : Bool). drop (cond z 1 0) (b ∷ bs)) (ne_eqb b 43 (λ s. omega (arith, s, lo)))

numeral : (bs : List ℕ) → is_number bs ≡ true → IsNumeral 10 bs
numeral [] e = absurd (cc)
numeral (b ∷ bs) e = (omega arith, digits_are (b ∷ bs) (and_parts (list_all is_digit (b ∷ bs)) _ e).0)

pub read_ok : (least most n : ℕ) (bs : List ℕ) → is_number bs ≡ true → n ≡ digits_value 10 (without_leading_plus bs) → in_range least most n ≡ number_in least most bs
read_ok least most n bs is value =
    let v : n ≡ digits_value 10 bs = value ∙ ap (λ (ds : List ℕ). digits_value 10 ds) (no_plus bs is) in
    ap (λ (m : ℕ). in_range least most m) v ∙ sym (picked_true (is_number bs) (in_range least most (digits_value 10 bs)) None is)

and_false : (a b : Bool) → b ≡ false → (a && b) ≡ false
and_false true b e = e
and_false false b e = refl

too_large : (least most n : ℕ) → most < n → in_range least most n ≡ None
too_large least most n large = picked_false (nat_le least n && nat_le n most) (Some n) None (and_false (nat_le least n) (nat_le n most) (lt-leb n most large))

not_below : (most n : ℕ) → most < 2 ^ 64 → (n < 2 ^ 64 → ⊥) → most < n
not_below most n small none = by (nat_lt most n) refl
  where
    by : (z : Bool) → nat_lt most n ≡ z → most < n
    by true e = ltb-true most n e
    by false e = let l = ltb-false most n e in absurd (none (omega (arith, l, small)))

pub read_err : (least most : ℕ) (bs : List ℕ) → most < 2 ^ 64 → is_number bs ≡ true → (IsNumeral 10 (without_leading_plus bs) × (digits_value 10 (without_leading_plus bs) < 2 ^ 64) → ⊥) → None ≡ number_in least most bs
read_err least most bs small is none =
    let plain = no_plus bs is in
    let large = not_below most (digits_value 10 bs) small (λ l. none (subst (λ (ds : List ℕ). IsNumeral 10 ds × (digits_value 10 ds < 2 ^ 64)) (sym plain) (numeral bs is, l))) in
    sym (picked_true (is_number bs) (in_range least most (digits_value 10 bs)) None is ∙ too_large least most (digits_value 10 bs) large)
