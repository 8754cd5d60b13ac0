-- None is no Some.
use Rattle.std.proofs.Common.{◌≡◌, Some, None}

pub none_is : {A : Type 0} (a : A) → None ≡ Some a → ⊥
none_is a e = cc
