-- The formats of switches behind their padding.
use Rattle.std.proofs.Common.{◌≡◌, ℕ, zero, suc, ◌^◌, ◌<◌, ltb, true, ℤ, List, [], ◌∷◌, ◌++◌, length, Option, Some, None, Ok, refl, sym, ap, subst, ◌∙◌, append_assoc, arith}
use Rattle.std.specs.Prelude.{FitsSigned, ◌≤ℤ◌, int_le}
use Rattle.std.specs.Int.{w32}
use Rattle.std.specs.List.{flat_map, AllByRecursion}
use Rattle.std.proofs.lemmas.Int.{ints}
use Rattle.std.proofs.lemmas.Bool.{ltb-true, lt-ltb}
use Rattle.kilim_class_grammar.specs.Reader.{◌>>=◌, both, followed, made, many}
use Rattle.kilim_class_grammar.specs.Spelling.{u4}
use Rattle.kilim_class_grammar.proofs.Bytes.{IsBytes, Takes, Takes-then}
use Rattle.kilim_class_grammar.proofs.Formats.{Format, bind_ok, well_is, n32, signed32, refitted, passed, pair, follow, several}
use Rattle.kilim_class_code.specs.declared.opcodes.fault.OpFault.{OpFault}
use Rattle.kilim_class_code.specs.declared.opcodes.fault.OpFault.TheVariants.{Unknown, Cut}
use Rattle.kilim_class_code.specs.opcodes.Instr.{integer_text, target_text, TargetFits, high_of, pair_text, IsAbove, PairsFit, table_text, lookup_text}
use Rattle.kilim_class_code.specs.opcodes.Reading.{InstrReader, target_at, range_at, targets_in, count_at, is_above, pair_at, pairs_at}
use Rattle.kilim_class_code.proofs.opcodes.Operands.{turned, integer, target}

-- ---- a tableswitch

above_true : (a b : ℤ) → int_le a b ≡ true → a ≤ℤ b
above_true a b e = grind (arith, ints)

true_above : (a b : ℤ) → a ≤ℤ b → int_le a b ≡ true
true_above a b h = grind (arith, ints)

pub range : (op : ℕ) → Format (λ (r : ℤ × ℤ). integer_text w32 r.0 ++ integer_text w32 r.1) (range_at op) (λ r. (FitsSigned w32 r.0 × FitsSigned w32 r.1) × (int_le r.0 r.1 ≡ true))
unfolding range_at
range op = passed (pair (integer w32 (2 ^ 32) signed32) (integer w32 (2 ^ 32) signed32)) (λ r. int_le r.0 r.1) (λ r. Unknown op)

-- the high is that of so many targets
pub high_is : (low high : ℤ) (targets : List ℤ) → low ≤ℤ high → length targets ≡ targets_in (low, high) → high_of low targets ≡ high
high_is low high targets le len = omega (arith, ints)

pub count_is : (low : ℤ) (targets : List ℤ) → 0 < length targets → length targets ≡ targets_in (low, high_of low targets)
count_is low targets some = omega (arith, ints)

pub high_above : (low : ℤ) (targets : List ℤ) → 0 < length targets → low ≤ℤ high_of low targets
high_above low targets some = omega (arith, ints)

far : (op at : ℕ) → Format (target_text w32 at) (target_at op at w32) (TargetFits w32 at)
far op at = target op at w32 (2 ^ 32) signed32

-- default, low, targets
abbrev pub TableFits : ℕ → ((ℤ × ℤ) × List ℤ) → Type 0
TableFits at t = TargetFits w32 at t.0.0 × FitsSigned w32 t.0.1 × FitsSigned w32 (high_of t.0.1 t.1) × (0 < length t.1) × AllByRecursion (TargetFits w32 at) t.1

abbrev pub table_made : (ℤ × (ℤ × ℤ)) × List ℤ → (ℤ × ℤ) × List ℤ
table_made x = ((x.0.0, x.0.1.0), x.1)

abbrev pub table_back : (ℤ × ℤ) × List ℤ → (ℤ × (ℤ × ℤ)) × List ℤ
table_back t = ((t.0.0, (t.0.1, high_of t.0.1 t.1)), t.1)

abbrev pub table_reader : ℕ → ℕ → InstrReader ((ℤ × (ℤ × ℤ)) × List ℤ)
table_reader op at = followed (both (target_at op at w32) (range_at op)) (λ head. many (target_at op at w32) (targets_in head.1))

pub table : (op at : ℕ) → Format (λ t. table_text at t.0.0 t.0.1 t.1) (made table_made (table_reader op at)) (TableFits at)
unfolding table_text
table op at =
    turned (follow (pair (far op at) (range op)) (λ head fits. several (far op at) (targets_in head.1))) table_made table_back (TableFits at)
    (λ x fits.
    let le = above_true x.0.1.0 x.0.1.1 fits.0.1.1 in
    let high : high_of x.0.1.0 x.1 ≡ x.0.1.1 = high_is x.0.1.0 x.0.1.1 x.1 le fits.1.0 in
    let some : 0 < length x.1 = omega (arith, fits.1.0) in
    (ap (λ (h : ℤ). ((x.0.0, (x.0.1.0, h)), x.1)) high, (fits.0.0, fits.0.1.0.0, subst (λ (h : ℤ). FitsSigned w32 h) (sym high) fits.0.1.0.1, some, fits.1.1)))
    (λ t fits. (refl, ((fits.0, ((fits.1, fits.2), true_above t.0.1 (high_of t.0.1 t.1) (high_above t.0.1 t.1 fits.3))), (count_is t.0.1 t.1 fits.3, fits.4))))

-- ---- a lookupswitch

pub count : (op : ℕ) → Format u4 (count_at op) (λ n. n < 2 ^ 31)
unfolding count_at
count op =
    refitted (passed (n32 Cut) (λ n. ltb n (2 ^ 31)) (λ n. Unknown op)) (λ n. n < 2 ^ 31)
    (λ n fits. ltb-true n (2 ^ 31) fits.1)
    (λ n fits. (omega arith, lt-ltb n (2 ^ 31) fits))

is_above_true : (least : Option ℤ) (key : ℤ) → is_above least key ≡ true → IsAbove least key
is_above_true None key e = tt
is_above_true (Some least) key e = grind (arith, ints)

true_is_above : (least : Option ℤ) (key : ℤ) → IsAbove least key → is_above least key ≡ true
true_is_above None key h = refl
true_is_above (Some least) key h = grind (arith, ints)

abbrev pub OnePairFits : ℕ → Option ℤ → ℤ × ℤ → Type 0
OnePairFits at least p = IsAbove least p.0 × FitsSigned w32 p.0 × TargetFits w32 at p.1

pub one_pair : (op at : ℕ) (least : Option ℤ) → Format (pair_text at) (pair_at op at least) (OnePairFits at least)
unfolding pair_at pair_text
one_pair op at least =
    refitted (pair (passed (integer w32 (2 ^ 32) signed32) (is_above least) (λ key. Unknown op)) (far op at)) (OnePairFits at least)
    (λ p fits. (is_above_true least p.0 fits.0.1, fits.0.0, fits.1))
    (λ p fits. ((fits.1, true_is_above least p.0 fits.0), fits.2))

module _ (op at : ℕ) where
  pairs_take : (n : ℕ) (least : Option ℤ) (bytes : List ℕ) (ps : List (ℤ × ℤ)) (rest : List ℕ) → IsBytes bytes → pairs_at op at n least bytes ≡ Ok (ps, rest)
      → Takes bytes (flat_map (pair_text at) ps) rest × ((length ps ≡ n) × PairsFit at least ps)
  unfolding pairs_at
  pairs_take zero least bytes ps rest fits e =
      let none : List (ℤ × ℤ) × List ℕ = ([], bytes) in
      subst (λ (q : List (ℤ × ℤ) × List ℕ). Takes bytes (flat_map (pair_text at) q.0) q.1 × ((length q.0 ≡ 0) × PairsFit at least q.0)) (well_is {F = OpFault} none (ps, rest) e)
      (record { parts = refl; rest_fits = fits }, (refl, tt))
  pairs_take (suc n) least bytes ps rest fits e =
      let a = bind_ok (pair_at op at least bytes) (λ x. pairs_at op at n (Some x.0.0) x.1 >>= λ y. Ok (x.0 ∷ y.0, y.1)) (ps, rest) e in
      let b = bind_ok (pairs_at op at n (Some a.0.0.0) a.0.1) (λ y. Ok (a.0.0 ∷ y.0, y.1)) (ps, rest) a.2 in
      let t = (one_pair op at least).takes bytes a.0.0 a.0.1 fits a.1 in
      let u = pairs_take n (Some a.0.0.0) a.0.1 b.0.0 b.0.1 t.0.rest_fits b.1 in
      let len : length (a.0.0 ∷ b.0.0) ≡ suc n = ap suc u.1.0 in
      let found : List (ℤ × ℤ) × List ℕ = (a.0.0 ∷ b.0.0, b.0.1) in
      subst (λ (q : List (ℤ × ℤ) × List ℕ). Takes bytes (flat_map (pair_text at) q.0) q.1 × ((length q.0 ≡ suc n) × PairsFit at least q.0)) (well_is {F = OpFault} found (ps, rest) b.2)
      (Takes-then bytes (pair_text at a.0.0) a.0.1 (flat_map (pair_text at) b.0.0) b.0.1 t.0 u.0, (len, (t.1, u.1.1)))

  pairs_again : (n : ℕ) (least : Option ℤ) (ps : List (ℤ × ℤ)) (rest : List ℕ) → (length ps ≡ n) × PairsFit at least ps → pairs_at op at n least (flat_map (pair_text at) ps ++ rest) ≡ Ok (ps, rest)
  unfolding pairs_at
  pairs_again zero least [] rest fits = refl
  pairs_again zero least (p ∷ ps) rest fits = absurd (omega (arith, fits.0))
  pairs_again (suc n) least [] rest fits = absurd (omega (arith, fits.0))
  pairs_again (suc n) least (p ∷ ps) rest fits =
      let len : length ps ≡ n = omega (arith, fits.0) in
      ap (pairs_at op at (suc n) least) (append_assoc (pair_text at p) (flat_map (pair_text at) ps) rest)
      ∙ rw ((one_pair op at least).again p (flat_map (pair_text at) ps ++ rest) fits.1.0, pairs_again n (Some p.0) ps rest (len, fits.1.1)) refl

  pub pairs : (n : ℕ) → Format (flat_map (pair_text at)) (pairs_at op at n None) (λ ps. (length ps ≡ n) × PairsFit at None ps)
  pairs n = record { takes = pairs_take n None; again = pairs_again n None }

-- default, pairs
abbrev pub LookupFits : ℕ → ℤ × List (ℤ × ℤ) → Type 0
LookupFits at t = TargetFits w32 at t.0 × (length t.1 < 2 ^ 31) × PairsFit at None t.1

abbrev pub lookup_made : (ℤ × ℕ) × List (ℤ × ℤ) → ℤ × List (ℤ × ℤ)
lookup_made x = (x.0.0, x.1)

abbrev pub lookup_back : ℤ × List (ℤ × ℤ) → (ℤ × ℕ) × List (ℤ × ℤ)
lookup_back t = ((t.0, length t.1), t.1)

abbrev pub lookup_reader : ℕ → ℕ → InstrReader ((ℤ × ℕ) × List (ℤ × ℤ))
lookup_reader op at = followed (both (target_at op at w32) (count_at op)) (λ head. pairs_at op at head.1 None)

pub lookup : (op at : ℕ) → Format (λ t. lookup_text at t.0 t.1) (made lookup_made (lookup_reader op at)) (LookupFits at)
unfolding lookup_text
lookup op at =
    turned (follow (pair (far op at) (count op)) (λ head fits. pairs op at head.1)) lookup_made lookup_back (LookupFits at)
    (λ x fits. (ap (λ (n : ℕ). ((x.0.0, n), x.1)) fits.1.0, (fits.0.0, subst (λ (n : ℕ). n < 2 ^ 31) (sym fits.1.0) fits.0.1, fits.1.1)))
    (λ t fits. (refl, ((fits.0, fits.1), (refl, fits.2))))
