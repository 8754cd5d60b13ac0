-- Options.
use Rattle.std.proofs.Common.{◌≡◌, Option, Some, None}

-- one value isn't none and some
pub none_isnt : {A : Type 0} (o : Option A) (x : A) → o ≡ None → o ≡ Some x → {B : Type 0} → B
none_isnt None x e is = absurd cc
none_isnt (Some y) x e is = absurd cc

pub none_no_some : {A : Type 0} (x : A) (o : Option A) → o ≡ None → o ≡ Some x → ⊥
none_no_some x o p q = cc
