-- A value that takes just the bytes that are there, and one that is made of another.
use Rattle.std.proofs.Common.{◌≡◌, ℕ, suc, ◌==◌, Bool, true, false, List, [], ◌∷◌, length, Result, Ok, Err, refl, sym, ap, ◌∙◌, arith}
use Rattle.std.proofs.lemmas.Bool.{ne_eqb}
use Rattle.kilim_class_grammar.specs.Reader.{Reader, ◌>>=◌, checked, is_empty, filled}
use Rattle.kilim_class_attributes.specs.Lists.{as_a, turned}

empty_is : (bytes : List ℕ) → is_empty bytes ≡ (length bytes == 0)
empty_is [] = refl
empty_is (b ∷ bytes) = sym (ne_eqb (suc (length bytes)) 0 (λ e. omega arith))

module _ {F A B : Type 0} (make : A → B) (own : F) (one : Reader F A) (bytes : List ℕ) (x : A) (rest : List ℕ) (read : one bytes ≡ Ok (x, rest)) (empty : Bool) (tested : empty ≡ (length rest == 0)) where
  abbrev left : Bool → Result B F
  left none = as_a make (checked none own (Ok x))

  filled_is : as_a make (filled own one bytes) ≡ left empty
  filled_is =
      ap (λ (r : Result (A × List ℕ) F). as_a make (r >>= λ (y : A × List ℕ). checked (is_empty y.1) own (Ok y.0))) read
      ∙ ap left (empty_is rest ∙ sym tested)

  pub fills : empty ≡ true → as_a make (filled own one bytes) ≡ Ok (make x)
  fills none = filled_is ∙ ap left none

  pub overflows : empty ≡ false → as_a make (filled own one bytes) ≡ Err own
  overflows some = filled_is ∙ ap left some

pub turned_ok : {F A B : Type 0} (make : A → Result B F) (one : Reader F A) (bytes : List ℕ) (x : A) (rest : List ℕ) (y : B) → one bytes ≡ Ok (x, rest) → make x ≡ Ok y → turned make one bytes ≡ Ok (y, rest)
turned_ok {F} {A} {B} make one bytes x rest y read made =
    ap (λ (r : Result (A × List ℕ) F). r >>= λ (z : A × List ℕ). make z.0 >>= λ (b : B). Ok (b, z.1)) read
    ∙ ap (λ (r : Result B F). r >>= λ (b : B). Ok (b, rest)) made
