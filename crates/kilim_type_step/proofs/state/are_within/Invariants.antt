use Rattle.std.proofs.Common.{◌≡◌, ◌+◌, drop}
use Rattle.kilim_type_spec.specs.Step.{words}
use Rattle.kilim_type_step.proofs.state.are_within.Given as goal

abbrev pub invariant-loop-t : goal.invariant-loop-t
invariant-loop-t l = l.left + words l.types ≡ l.most + words (drop l.t-index l.types)
