-- A renamed value, as a function.
use Rattle.std.proofs.Common.{◌≡◌, ℕ, List, [], ◌∷◌, map, Option, Some, None, refl, ap}
use Rattle.kilim_program.specs.declared.value.Value.{Value}
use Rattle.kilim_program.specs.declared.value.Value.TheVariants.{Int, Long, Null, Ref, Text, Box, Fiber}
use Rattle.kilim_run_model.specs.kin.Kin.{Names, IsKin, AreKin}

abbrev pub number_of : Option ℕ → ℕ
number_of None = 0
number_of (Some x) = x

abbrev pub renamed : Names → Value → Value
renamed of (Int a) = Int a
renamed of (Long a) = Long a
renamed of Null = Null
renamed of (Ref n) = Ref (number_of (of n))
renamed of (Text a) = Text a
renamed of (Box a) = Box a
renamed of Fiber = Fiber

pub kin_is : (of : Names) (v w : Value) → IsKin of v w → renamed of v ≡ w
kin_is of (Int a) (Int b) e = ap Int e
kin_is of (Long a) (Long b) e = ap Long e
kin_is of Null Null e = refl
kin_is of (Ref n) (Ref x) e = ap (λ (z : Option ℕ). Ref (number_of z)) e
kin_is of (Text a) (Text b) e = ap Text e
kin_is of (Box a) (Box b) e = ap Box e
kin_is of Fiber Fiber e = refl
kin_is of _ _ e = absurd e

pub are_is : (of : Names) (vs ws : List Value) → AreKin of vs ws → map (renamed of) vs ≡ ws
are_is of [] [] e = refl
are_is of (v ∷ vs) (w ∷ ws) e = λ i. kin_is of v w e.0 i ∷ are_is of vs ws e.1 i
are_is of _ _ e = absurd e
