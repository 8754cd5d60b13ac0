-- Truth values.
use Rattle.std.proofs.Common.{◌≡◌, Bool, true, false, refl}
use Rattle.std.specs.Prelude.{◌&&◌, ◌||◌}

-- it isn't both
pub differ : (b : Bool) → b ≡ true → b ≡ false → ⊥
differ b p q = cc

-- where the first holds, the other one is to blame
pub rest_is_false : (a b : Bool) → a ≡ true → (a && b) ≡ false → b ≡ false
rest_is_false true b is both = both
rest_is_false false b is both = absurd (cc)

pub or_false : (b : Bool) → (b || false) ≡ b
or_false true = refl
or_false false = refl
