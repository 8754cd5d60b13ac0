use Rattle.std.specs.Int.{w16}
use Rattle.kilim_class_code.specs.declared.opcodes.instr.RawInstr.TheVariants.{Index}
use Rattle.kilim_class_code.specs.opcodes.Reading.{unsigned_at, operands_at}
use Rattle.kilim_class_code.proofs.opcodes.Boths.{made_one, made_fails}
use Rattle.kilim_class_code.proofs.opcodes.reading.index_at.Goals as goal

pub returns-in-Ok : goal.returns-in-Ok
unfolding operands_at
returns-in-Ok c = made_one (Index c.args.op) (unsigned_at w16) c.args.bytes.now c.in-Ok.index c.in-Ok.rest.now c.in-Ok.ensures

pub returns-in-Err : goal.returns-in-Err
unfolding operands_at
returns-in-Err c = made_fails (Index c.args.op) (unsigned_at w16) c.args.bytes.now c.in-Err.fault c.in-Err.ensures
