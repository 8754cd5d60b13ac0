use Rattle.std.proofs.Common.{◌≡◌, drop}
use Rattle.kilim_type_step.specs.Answers.{failing}
use Rattle.kilim_type_step.specs.Operands.{furthers_of}
use Rattle.kilim_type_step.proofs.apply.failing.Given as goal

abbrev pub invariant-loop-more : goal.invariant-loop-more
invariant-loop-more l = failing l.program (furthers_of (drop l.more-index l.also)) l.state.stack ≡ failing l.program (furthers_of l.also) l.state.stack
