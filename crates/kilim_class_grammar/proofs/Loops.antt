-- Reading values one after the other, as a loop does.
use Rattle.std.proofs.Common.{◌≡◌, ◌⊎◌, ℕ, suc, ◌-◌, ◌+◌, ◌≤◌, ◌<◌, Result, Ok, Err, List, [], ◌∷◌, ◌++◌, refl, sym, ap, ◌∙◌, append_assoc, arith, inl, inr}
use Rattle.std.proofs.lemmas.List.{append-nil}
use Rattle.kilim_class_grammar.specs.Reader.{Reader, ◌>>=◌, many}

-- what was read before, and what is still read
abbrev pub with_front : {F A : Type 0} → List A → Result (List A × List ℕ) F → Result (List A × List ℕ) F
with_front front (Err e) = Err e
with_front front (Ok x) = Ok (front ++ x.0, x.1)

-- want of memory, or just this fault
abbrev pub FailsUnless : {F Y : Type 0} → F → F → Result Y F → Type 0
FailsUnless memory e read = (e ≡ memory) ⊎ (read ≡ Err e)

module _ {F A : Type 0} (one : Reader F A) where
  regroup : (front : List A) (x : A) (read : Result (List A × List ℕ) F) → with_front front (read >>= λ y. Ok (x ∷ y.0, y.1)) ≡ with_front (front ++ x ∷ []) read
  regroup front x (Err e) = refl
  regroup front x (Ok y) = ap (λ (xs : List A). Ok (xs, y.1)) (simp append_assoc)

  pub goes_on : (front : List A) (count i : ℕ) (bytes : List ℕ) (x : A) (after : List ℕ) (total : Result (List A × List ℕ) F) → i < count → one bytes ≡ Ok (x, after)
      → with_front front (many one (count - i) bytes) ≡ total → with_front (front ++ x ∷ []) (many one (count - (i + 1)) after) ≡ total
  unfolding many
  goes_on front count i bytes x after total lt h so_far =
      let k : count - i ≡ suc (count - (i + 1)) = omega arith in
      let step : with_front front (many one (count - i) bytes) ≡ with_front (front ++ x ∷ []) (many one (count - (i + 1)) after) = rw (k, h) (regroup front x (many one (count - (i + 1)) after)) in
      sym step ∙ so_far

  pub stops : (memory e : F) (front : List A) (count i : ℕ) (bytes : List ℕ) (total : Result (List A × List ℕ) F) → i < count → FailsUnless memory e (one bytes)
      → with_front front (many one (count - i) bytes) ≡ total → FailsUnless memory e total
  unfolding many
  stops memory e front count i bytes total lt (inl m) so_far = inl m
  stops memory e front count i bytes total lt (inr f) so_far =
      let k : count - i ≡ suc (count - (i + 1)) = omega arith in
      let step : with_front front (many one (count - i) bytes) ≡ Err e = rw (k, f) refl in
      inr (sym so_far ∙ step)

  pub is_done : (front : List A) (count i : ℕ) (bytes : List ℕ) (total : Result (List A × List ℕ) F) → count ≤ i → with_front front (many one (count - i) bytes) ≡ total → total ≡ Ok (front, bytes)
  unfolding many
  is_done front count i bytes total le so_far =
      let k : count - i ≡ 0 = omega arith in
      let step : with_front front (many one (count - i) bytes) ≡ Ok (front, bytes) = rw k (ap (λ (xs : List A). Ok (xs, bytes)) (append-nil front)) in
      sym so_far ∙ step
