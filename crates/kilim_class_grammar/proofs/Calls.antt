-- What a call that reads a part answers, where it reads as a reader does.
use Rattle.std.proofs.Common.{◌≡◌, ◌⊎◌, ℕ, ◌-◌, ◌≤◌, List, ◌++◌, length, drop, Result, Ok, Err, sym, ap, ◌∙◌, arith, inl, inr}
use Rattle.std.proofs.lemmas.List.{length-append, drop_at}
use Rattle.kilim_class_grammar.specs.Reader.{Reader}
use Rattle.kilim_class_grammar.specs.Format.{IsBytes, Format, IsAtFront}
use Rattle.kilim_class_grammar.proofs.Formats.{well_is}

module _ {F A : Type 0} {text : A → List ℕ} {at : Reader F A} {Fits : A → Type 0} (one : Format text at Fits) where
  module _ (bytes : List ℕ) (x : A) (rest : List ℕ) (fits : IsBytes bytes) (read : at bytes ≡ Ok (x, rest)) where
    -- the bytes that are left tell the place
    place_is : length bytes - length rest ≡ length (text x)
    place_is =
        let t = one.takes bytes x rest fits read in
        let len = ap length t.0.parts in
        let sum = length-append (text x) rest in
        omega arith

    pub within : length rest ≤ length bytes
    within =
        let t = one.takes bytes x rest fits read in
        let len = ap length t.0.parts in
        let sum = length-append (text x) rest in
        omega arith

    pub rest_is : drop (length bytes - length rest) bytes ≡ rest
    rest_is = let t = one.takes bytes x rest fits read in ap (drop (length bytes - length rest)) t.0.parts ∙ drop_at (text x) rest (length bytes - length rest) (sym place_is)

    pub at_front : IsAtFront text Fits bytes x (length bytes - length rest)
    at_front =
        let t = one.takes bytes x rest fits read in
        record { front = t.0.parts ∙ ap (λ (r : List ℕ). text x ++ r) (sym rest_is); len = place_is; fits = t.1 }

    pub read_so : at bytes ≡ Ok (x, drop (length bytes - length rest) bytes)
    read_so = read ∙ ap (λ (r : List ℕ). Ok (x, r)) (sym rest_is)

  -- what is spelled at the front is read
  pub read_again : (bytes : List ℕ) (x : A) (rest : List ℕ) → Fits x → bytes ≡ text x ++ rest → at bytes ≡ Ok (x, rest)
  read_again bytes x rest fits e = ap at e ∙ one.again x rest fits

  same_value : (r : Result (A × List ℕ) F) (p q : A × List ℕ) → r ≡ Ok p → r ≡ Ok q → p ≡ q
  same_value r p q e f = well_is {F = F} p q (sym e ∙ f)

  no_fault : (r : Result (A × List ℕ) F) (e : F) (p : A × List ℕ) → r ≡ Err e → r ≡ Ok p → ⊥
  no_fault r e p f g = let h : Err e ≡ Ok p = sym f ∙ g in cc

  pub only_one : (bytes : List ℕ) (x y : A) (rest after : List ℕ) → at bytes ≡ Ok (y, after) → Fits x → bytes ≡ text x ++ rest → y ≡ x
  only_one bytes x y rest after read fits e = ap (λ (p : A × List ℕ). p.0) (same_value (at bytes) (y, after) (x, rest) read (read_again bytes x rest fits e))

  -- a fault, where a value is spelled, is want of memory
  pub only_free : (free e : F) (bytes : List ℕ) (x : A) (rest : List ℕ) → (e ≡ free) ⊎ (at bytes ≡ Err e) → Fits x → bytes ≡ text x ++ rest → e ≡ free
  only_free free e bytes x rest (inl m) fits p = m
  only_free free e bytes x rest (inr f) fits p = absurd (no_fault (at bytes) e (x, rest) f (read_again bytes x rest fits p))

  pub only_place : (bytes : List ℕ) (x y : A) (rest after : List ℕ) → IsBytes bytes → at bytes ≡ Ok (y, after) → Fits x → bytes ≡ text x ++ rest → length bytes - length after ≡ length (text x)
  only_place bytes x y rest after some read fits e = place_is bytes y after some read ∙ ap (λ (z : A). length (text z)) (only_one bytes x y rest after read fits e)
