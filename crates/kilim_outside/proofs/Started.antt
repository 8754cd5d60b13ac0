-- What was read stands behind what was there.
use Rattle.std.proofs.Common.{◌≡◌, ℕ, List, length, take, ap, ◌∙◌, arith}
use Rattle.std.proofs.lemmas.List.{take_all}
use Rattle.std.specs.Io.{StartsWith}

pub same_start : (old new : List ℕ) → new ≡ old → StartsWith new old
same_start old new e = ap (λ (xs : List ℕ). take (length old) xs) e ∙ take_all (length old) old (omega arith)
