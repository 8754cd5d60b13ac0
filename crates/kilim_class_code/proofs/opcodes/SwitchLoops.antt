-- The loops over a switch's padding and pairs.
use Rattle.std.proofs.Common.{◌≡◌, ℕ, suc, ◌-◌, ◌+◌, ◌≤◌, ◌<◌, ℤ, Option, Some, Result, Ok, Err, List, [], ◌∷◌, ◌++◌, refl, sym, ap, ◌∙◌, append_assoc, arith, inr}
use Rattle.std.proofs.lemmas.List.{append-nil}
use Rattle.std.specs.Int.{w8}
use Rattle.kilim_class_grammar.specs.Reader.{◌>>=◌, number_at}
use Rattle.kilim_class_grammar.proofs.Loops.{with_front, FailsUnless}
use Rattle.kilim_class_code.specs.declared.opcodes.fault.OpFault.{OpFault}
use Rattle.kilim_class_code.specs.declared.opcodes.fault.OpFault.TheVariants.{Cut, Memory}
use Rattle.kilim_class_code.specs.opcodes.Reading.{zeros_at, pair_at, pairs_at}

pub zero_more : (op count i : ℕ) (bytes : List ℕ) (b : ℕ) (after : List ℕ) (total : Result (List ℕ) OpFault) → i < count → number_at Cut w8 bytes ≡ Ok (b, after) → b ≡ 0
    → zeros_at op (count - i) bytes ≡ total → zeros_at op (count - (i + 1)) after ≡ total
unfolding zeros_at
zero_more op count i bytes b after total lt h z so_far =
    let k : count - i ≡ suc (count - (i + 1)) = omega arith in
    let step : zeros_at op (count - i) bytes ≡ zeros_at op (count - (i + 1)) after = rw (k, h, z) refl in
    sym step ∙ so_far

module _ (op at : ℕ) where
  regroup : (front : List (ℤ × ℤ)) (x : ℤ × ℤ) (read : Result (List (ℤ × ℤ) × List ℕ) OpFault) → with_front front (read >>= λ y. Ok (x ∷ y.0, y.1)) ≡ with_front (front ++ x ∷ []) read
  regroup front x (Err e) = refl
  regroup front x (Ok y) = ap (λ (xs : List (ℤ × ℤ)). Ok (xs, y.1)) (simp append_assoc)

  pub pair_more : (front : List (ℤ × ℤ)) (count i : ℕ) (least : Option ℤ) (bytes : List ℕ) (x : ℤ × ℤ) (after : List ℕ) (total : Result (List (ℤ × ℤ) × List ℕ) OpFault) → i < count
      → pair_at op at least bytes ≡ Ok (x, after)
      → with_front front (pairs_at op at (count - i) least bytes) ≡ total → with_front (front ++ x ∷ []) (pairs_at op at (count - (i + 1)) (Some x.0) after) ≡ total
  unfolding pairs_at
  pair_more front count i least bytes x after total lt h so_far =
      let k : count - i ≡ suc (count - (i + 1)) = omega arith in
      let step : with_front front (pairs_at op at (count - i) least bytes) ≡ with_front (front ++ x ∷ []) (pairs_at op at (count - (i + 1)) (Some x.0) after) =
      rw (k, h) (regroup front x (pairs_at op at (count - (i + 1)) (Some x.0) after)) in
      sym step ∙ so_far

  pub pair_fails : (e : OpFault) (front : List (ℤ × ℤ)) (count i : ℕ) (least : Option ℤ) (bytes : List ℕ) (total : Result (List (ℤ × ℤ) × List ℕ) OpFault) → i < count
      → pair_at op at least bytes ≡ Err e
      → with_front front (pairs_at op at (count - i) least bytes) ≡ total → FailsUnless Memory e total
  unfolding pairs_at
  pair_fails e front count i least bytes total lt f so_far =
      let k : count - i ≡ suc (count - (i + 1)) = omega arith in
      let step : with_front front (pairs_at op at (count - i) least bytes) ≡ Err e = rw (k, f) refl in
      inr (sym so_far ∙ step)

  pub pairs_done : (front : List (ℤ × ℤ)) (count i : ℕ) (least : Option ℤ) (bytes : List ℕ) (total : Result (List (ℤ × ℤ) × List ℕ) OpFault) → count ≤ i
      → with_front front (pairs_at op at (count - i) least bytes) ≡ total → total ≡ Ok (front, bytes)
  unfolding pairs_at
  pairs_done front count i least bytes total le so_far =
      let k : count - i ≡ 0 = omega arith in
      let step : with_front front (pairs_at op at (count - i) least bytes) ≡ Ok (front, bytes) = rw k (ap (λ (xs : List (ℤ × ℤ)). Ok (xs, bytes)) (append-nil front)) in
      sym so_far ∙ step
