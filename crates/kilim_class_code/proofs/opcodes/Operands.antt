-- The formats of an instruction's parts.
use Rattle.std.proofs.Common.{◌≡◌, ℕ, zero, suc, ◌^◌, eqb, true, ℤ, pos, negsuc, ◌+ℤ◌, ◌-ℤ◌, List, [], ◌∷◌, ◌++◌, replicate, Ok, refl, sym, ap, subst, ◌∙◌, append_assoc, arith}
use Rattle.std.specs.Prelude.{FitsSigned}
use Rattle.std.specs.Int.{Width, w8, w64}
use Rattle.std.proofs.lemmas.Int.{ints}
use Rattle.std.proofs.lemmas.Bool.{eqb-true, ltb-true, lt-ltb}
use Rattle.kilim_class_grammar.specs.Reader.{checked, made}
use Rattle.kilim_class_grammar.specs.Spelling.{u1}
use Rattle.kilim_class_grammar.proofs.Bytes.{IsBytes, Takes, Takes-then}
use Rattle.kilim_class_grammar.proofs.Formats.{Format, bind_ok, checked_ok, well, well_is, n8, signed_number, IsSigned, refitted, passed}
use Rattle.kilim_class_code.specs.declared.opcodes.fault.OpFault.{OpFault}
use Rattle.kilim_class_code.specs.declared.opcodes.fault.OpFault.TheVariants.{Unknown, Cut}
use Rattle.kilim_class_code.specs.opcodes.Instr.{integer_text, target_text, TargetFits}
use Rattle.kilim_class_code.specs.opcodes.Reading.{InstrReader, unsigned_at, integer_at, is_place, target_at, zeros_at, behind_zeros}

-- ---- values in another dress, where they fit

module _ {A : Type 0} {text : A → List ℕ} {at : InstrReader A} {Fits : A → Type 0} (one : Format text at Fits) where
  module _ {B : Type 0} (make : A → B) (back : B → A) (Fits' : B → Type 0)
      (there : (x : A) → Fits x → (back (make x) ≡ x) × Fits' (make x)) (here : (y : B) → Fits' y → (make (back y) ≡ y) × Fits (back y)) where
    turned_takes : (bytes : List ℕ) (y : B) (rest : List ℕ) → IsBytes bytes → made make at bytes ≡ Ok (y, rest) → Takes bytes (text (back y)) rest × Fits' y
    turned_takes bytes y rest fits e =
        let a = bind_ok (at bytes) (λ x. Ok (make x.0, x.1)) (y, rest) e in
        let t = one.takes bytes a.0.0 a.0.1 fits a.1 in
        let found : B × List ℕ = (make a.0.0, a.0.1) in
        let s = there a.0.0 t.1 in
        subst (λ (q : B × List ℕ). Takes bytes (text (back q.0)) q.1 × Fits' q.0) (well_is {F = OpFault} found (y, rest) a.2)
        (subst (λ (x : A). Takes bytes (text x) a.0.1) (sym s.0) t.0, s.1)

    turned_again : (y : B) (rest : List ℕ) → Fits' y → made make at (text (back y) ++ rest) ≡ Ok (y, rest)
    turned_again y rest fits =
        let h = here y fits in
        rw (one.again (back y) rest h.1) (ap (λ (z : B). well {F = OpFault} (z, rest)) h.0)

    pub turned : Format (λ y. text (back y)) (made make at) Fits'
    turned = record { takes = turned_takes; again = turned_again }

-- ---- targets

place_fits : (z : ℤ) → is_place z ≡ true → FitsSigned w64 z
place_fits (pos n) e = let lt = ltb-true n (2 ^ 63) e in omega (arith, ints)
place_fits (negsuc n) e = let lt = ltb-true n (2 ^ 63) e in omega (arith, ints)

fits_place : (z : ℤ) → FitsSigned w64 z → is_place z ≡ true
fits_place (pos n) fits = lt-ltb n (2 ^ 63) (omega (arith, ints))
fits_place (negsuc n) fits = lt-ltb n (2 ^ 63) (omega (arith, ints))

away_back : (at : ℕ) (d : ℤ) → (pos at +ℤ d) -ℤ pos at ≡ d
away_back at d = omega (arith, ints)

back_away : (at : ℕ) (to : ℤ) → pos at +ℤ (to -ℤ pos at) ≡ to
back_away at to = omega (arith, ints)

pub integer : (w : Width) (limit : ℕ) → IsSigned w limit → Format (integer_text w) (integer_at w) (FitsSigned w)
unfolding integer_text
integer w limit is = signed_number Cut w limit is

module _ (op at : ℕ) (w : Width) (limit : ℕ) (is : IsSigned w limit) where
  away : Format (λ to. integer_text w (to -ℤ pos at)) (made (λ d. pos at +ℤ d) (integer_at w)) (λ to. FitsSigned w (to -ℤ pos at))
  away =
      turned (integer w limit is) (λ d. pos at +ℤ d) (λ to. to -ℤ pos at) (λ to. FitsSigned w (to -ℤ pos at))
      (λ d fits. (away_back at d, subst (λ (z : ℤ). FitsSigned w z) (sym (away_back at d)) fits))
      (λ to fits. (back_away at to, fits))

  pub target : Format (target_text w at) (target_at op at w) (TargetFits w at)
  unfolding target_at target_text
  target =
      refitted (passed away is_place (λ to. Unknown op)) (TargetFits w at)
      (λ to fits. (place_fits to fits.1, fits.0))
      (λ to fits. (fits.1, fits_place to fits.0))

-- ---- padding

zeros_take : (op n : ℕ) (bytes rest : List ℕ) → IsBytes bytes → zeros_at op n bytes ≡ Ok rest → Takes bytes (replicate n 0) rest
unfolding zeros_at
zeros_take op zero bytes rest fits e = subst (λ (r : List ℕ). Takes bytes [] r) (well_is {F = OpFault} bytes rest e) (record { parts = refl; rest_fits = fits })
zeros_take op (suc n) bytes rest fits e =
    let a = bind_ok (unsigned_at w8 bytes) (λ b. checked (eqb b.0 0) (Unknown op) (zeros_at op n b.1)) rest e in
    let g = checked_ok (eqb a.0.0 0) (Unknown op) (zeros_at op n a.0.1) rest a.2 in
    let t = (n8 Cut).takes bytes a.0.0 a.0.1 fits a.1 in
    let first : Takes bytes (0 ∷ []) a.0.1 = subst (λ (k : ℕ). Takes bytes (u1 k) a.0.1) (eqb-true a.0.0 0 g.0) t.0 in
    Takes-then bytes (0 ∷ []) a.0.1 (replicate n 0) rest first (zeros_take op n a.0.1 rest t.0.rest_fits g.1)

zeros_again : (op n : ℕ) (rest : List ℕ) → zeros_at op n (replicate n 0 ++ rest) ≡ Ok rest
unfolding zeros_at
zeros_again op zero rest = refl
zeros_again op (suc n) rest = rw ((n8 Cut).again 0 (replicate n 0 ++ rest) (omega arith)) (zeros_again op n rest)

module _ {A : Type 0} {text : A → List ℕ} {at : InstrReader A} {Fits : A → Type 0} (one : Format text at Fits) (op n : ℕ) where
  padded_takes : (bytes : List ℕ) (x : A) (rest : List ℕ) → IsBytes bytes → behind_zeros op n at bytes ≡ Ok (x, rest) → Takes bytes (replicate n 0 ++ text x) rest × Fits x
  padded_takes bytes x rest fits e =
      let a = bind_ok (zeros_at op n bytes) at (x, rest) e in
      let t = zeros_take op n bytes a.0 fits a.1 in
      let u = one.takes a.0 x rest t.rest_fits a.2 in
      (Takes-then bytes (replicate n 0) a.0 (text x) rest t u.0, u.1)

  padded_again : (x : A) (rest : List ℕ) → Fits x → behind_zeros op n at ((replicate n 0 ++ text x) ++ rest) ≡ Ok (x, rest)
  padded_again x rest fits =
      ap (behind_zeros op n at) (append_assoc (replicate n 0) (text x) rest) ∙ rw (zeros_again op n (text x ++ rest)) (one.again x rest fits)

  pub padded : Format (λ x. replicate n 0 ++ text x) (behind_zeros op n at) Fits
  padded = record { takes = padded_takes; again = padded_again }
