use Rattle.std.proofs.Common.{option_to_list}
use Rattle.kilim_type_spec.specs.Step.{row}
use Rattle.kilim_type_step.specs.Operands.{operands_of}
use Rattle.kilim_type_step.proofs.Places.{plain_place}
use Rattle.kilim_type_step.proofs.plain.on_plain.Goals as goal

pub returns : goal.returns
returns c =
    plain_place c.args.program.now c.args.method.now c.args.at (row c.args.program.now c.args.method.now c.args.instr.now) (operands_of c.plain_row-plain.result.0.now) (option_to_list c.plain_row-plain.result.1) c.args.state.now c.apply.new.state c.apply.result
    (c.plain_row-plain.ensures c.args.program.now c.args.method.now) c.apply.ensures
