-- A reader and the text of what it reads belong together.
use Rattle.std.specs.Prelude.{◌≡◌, ℕ, ◌<◌, List, ◌++◌, length, drop, get_or, Ok}
use Rattle.kilim_class_grammar.specs.Reader.{Reader}

abbrev pub IsBytes : List ℕ → Type 0
IsBytes bytes = (i : ℕ) → get_or bytes i 0 < 256

-- a text at the front of bytes, and the bytes behind it
pub record Takes (bytes text rest : List ℕ) : Type 0 where
  pub parts : bytes ≡ text ++ rest
  pub rest_fits : IsBytes rest

-- A reader reads just what is spelled so: the values that have a text are those that fit, what is read from bytes is
-- spelled at their front, and what is spelled at the front is read again, whatever follows.
pub record Format {F A : Type 0} (text : A → List ℕ) (at : Reader F A) (Fits : A → Type 0) : Type 0 where
  pub takes : (bytes : List ℕ) (x : A) (rest : List ℕ) → IsBytes bytes → at bytes ≡ Ok (x, rest) → Takes bytes (text x) rest × Fits x
  pub again : (x : A) (rest : List ℕ) → Fits x → at (text x ++ rest) ≡ Ok (x, rest)

-- a value whose text stands at the front of bytes, and the place behind it
pub record IsAtFront {A : Type 0} (text : A → List ℕ) (Fits : A → Type 0) (bytes : List ℕ) (x : A) (place : ℕ) : Type 0 where
  pub front : bytes ≡ text x ++ drop place bytes
  pub len : place ≡ length (text x)
  pub fits : Fits x
