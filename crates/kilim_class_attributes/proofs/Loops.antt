-- Reading values one after the other, each knowing those before it, as a loop does.
use Rattle.std.proofs.Common.{◌≡◌, ℕ, suc, ◌-◌, ◌+◌, ◌≤◌, ◌<◌, Result, Ok, Err, List, [], ◌∷◌, ◌++◌, refl, sym, ◌∙◌, arith, inl, inr}
use Rattle.kilim_class_grammar.specs.Reader.{Reader}
use Rattle.kilim_class_grammar.proofs.Loops.{FailsUnless}
use Rattle.kilim_class_attributes.specs.Lists.{many_after}

module _ {F A : Type 0} (one : List A → Reader F A) where
  pub goes_on : (before : List A) (count i : ℕ) (bytes : List ℕ) (x : A) (after : List ℕ) (total : Result (List A × List ℕ) F) → i < count → one before bytes ≡ Ok (x, after)
      → many_after one before (count - i) bytes ≡ total → many_after one (before ++ x ∷ []) (count - (i + 1)) after ≡ total
  unfolding many_after
  goes_on before count i bytes x after total lt h so_far =
      let k : count - i ≡ suc (count - (i + 1)) = omega arith in
      let step : many_after one before (count - i) bytes ≡ many_after one (before ++ x ∷ []) (count - (i + 1)) after = rw (k, h) refl in
      sym step ∙ so_far

  pub stops : (memory e : F) (before : List A) (count i : ℕ) (bytes : List ℕ) (total : Result (List A × List ℕ) F) → i < count → FailsUnless memory e (one before bytes)
      → many_after one before (count - i) bytes ≡ total → FailsUnless memory e total
  unfolding many_after
  stops memory e before count i bytes total lt (inl m) so_far = inl m
  stops memory e before count i bytes total lt (inr f) so_far =
      let k : count - i ≡ suc (count - (i + 1)) = omega arith in
      let step : many_after one before (count - i) bytes ≡ Err e = rw (k, f) refl in
      inr (sym so_far ∙ step)

  pub is_done : (before : List A) (count i : ℕ) (bytes : List ℕ) (total : Result (List A × List ℕ) F) → count ≤ i → many_after one before (count - i) bytes ≡ total → total ≡ Ok (before, bytes)
  unfolding many_after
  is_done before count i bytes total le so_far =
      let k : count - i ≡ 0 = omega arith in
      let step : many_after one before (count - i) bytes ≡ Ok (before, bytes) = rw k refl in
      sym so_far ∙ step
