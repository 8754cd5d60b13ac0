-- Tests of types in the words of the code.
use Rattle.std.specs.Prelude.{Bool, true, false}
use Rattle.kilim_program.specs.declared.verified.VType.{VType}
use Rattle.kilim_program.specs.declared.verified.VType.TheVariants.{Null, UninitThis, Uninit, Object}

abbrev pub is_reference : VType → Bool
is_reference Null = true
is_reference UninitThis = true
is_reference (Uninit at) = true
is_reference (Object ty) = true
is_reference _ = false
