use Rattle.std.proofs.Common.{rules}
use Rattle.std.specs.Prelude.{FitsSigned}
use Rattle.std.specs.Int.{w8}
use Rattle.std.proofs.lemmas.Int.{to_z-of_z}
use Rattle.kilim_class_code.specs.declared.opcodes.instr.RawInstr.TheVariants.{Byte}
use Rattle.kilim_class_code.specs.opcodes.Reading.{integer_at, operands_at}
use Rattle.kilim_class_code.proofs.opcodes.Boths.{made_one, made_fails}
use Rattle.kilim_class_code.proofs.opcodes.reading.byte_at.Goals as goal

pub returns-in-Ok : goal.returns-in-Ok
unfolding operands_at
returns-in-Ok c =
    let fits : FitsSigned w8 c.in-Ok.number = search rules in
    rw (to_z-of_z w8 c.in-Ok.number fits) (made_one (Byte c.args.op) (integer_at w8) c.args.bytes.now c.in-Ok.number c.in-Ok.rest.now c.in-Ok.ensures)

pub returns-in-Err : goal.returns-in-Err
unfolding operands_at
returns-in-Err c = made_fails (Byte c.args.op) (integer_at w8) c.args.bytes.now c.in-Err.fault c.in-Err.ensures
