-- Whether an instruction makes an object.
use Rattle.std.specs.Prelude.{Bool, true, false}
use Rattle.kilim_program.specs.declared.instr.Instr.{Instr}
use Rattle.kilim_program.specs.declared.instr.Instr.TheVariants.{New}

abbrev pub is_new : Instr → Bool
is_new (New c) = true
is_new i = false
