use Rattle.std.proofs.Common.{rules}
use Rattle.std.specs.Prelude.{FitsSigned}
use Rattle.std.specs.Int.{w32, w64}
use Rattle.std.proofs.lemmas.Int.{to_z-of_z}
use Rattle.kilim_class_code.specs.declared.opcodes.instr.RawInstr.TheVariants.{WideJump}
use Rattle.kilim_class_code.specs.opcodes.Reading.{target_at, operands_at}
use Rattle.kilim_class_code.proofs.opcodes.Boths.{made_one, made_fails}
use Rattle.kilim_class_code.proofs.opcodes.reading.wide_jump_at.Goals as goal

pub returns-in-Ok : goal.returns-in-Ok
unfolding operands_at
returns-in-Ok c =
    let fits : FitsSigned w64 c.in-Ok.to = search rules in
    rw (to_z-of_z w64 c.in-Ok.to fits) (made_one (WideJump c.args.op) (target_at c.args.op c.args.at w32) c.args.bytes.now c.in-Ok.to c.in-Ok.rest.now c.in-Ok.ensures)

pub returns-in-Err : goal.returns-in-Err
unfolding operands_at
returns-in-Err c = made_fails (WideJump c.args.op) (target_at c.args.op c.args.at w32) c.args.bytes.now c.in-Err.fault c.in-Err.ensures
