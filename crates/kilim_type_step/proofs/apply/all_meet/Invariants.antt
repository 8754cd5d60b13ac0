use Rattle.std.proofs.Common.{◌≡◌, drop}
use Rattle.kilim_type_spec.specs.Step.{all_meet}
use Rattle.kilim_type_step.specs.Operands.{operands_of}
use Rattle.kilim_type_step.proofs.apply.all_meet.Given as goal

abbrev pub invariant-loop-at : goal.invariant-loop-at
invariant-loop-at l = all_meet l.program (operands_of (drop l.at l.takes)) (drop l.at l.state.stack) ≡ all_meet l.program (operands_of l.takes) l.state.stack
