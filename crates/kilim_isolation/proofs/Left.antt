-- What an instruction leaves, by whether it makes an object.
use Rattle.std.proofs.Common.{◌≡◌, refl, ◌∷◌, true, false, Ok}
use Rattle.kilim_program.specs.declared.class.Method.{Method}
use Rattle.kilim_program.specs.declared.instr.Instr.{Instr}
use Rattle.kilim_program.specs.declared.instr.Instr.TheVariants.{New}
use Rattle.kilim_program.specs.declared.verified.VType.TheVariants.{Top}
use Rattle.kilim_program.specs.Program.{Program}
use Rattle.kilim_type_spec.specs.Step.{Types, type_step}
use Rattle.kilim_isolation_rules.specs.Rules.{left_by}
use Rattle.kilim_isolation.specs.Made.{is_new}

pub left_new : (p : Program) (m : Method) (i : Instr) (f : Types) → is_new i ≡ true → left_by p m i f ≡ Ok (record f { stack = Top ∷ f.stack })
left_new p m (New c) f new = refl
left_new p m i f new = absurd (cc)

pub left_else : (p : Program) (m : Method) (i : Instr) (f : Types) → is_new i ≡ false → left_by p m i f ≡ type_step p m 0 i f
left_else p m (New c) f old = absurd (cc)
left_else p m i f old = refl
