-- What contracts see of a file that is to be written: its path and its bytes.
use Rattle.std.specs.Prelude.{ℕ, List}

pub record OutputFile : Type 0 where
  pub path : List ℕ
  pub bytes : List ℕ
