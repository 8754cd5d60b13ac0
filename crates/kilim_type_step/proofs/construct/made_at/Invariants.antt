use Rattle.std.proofs.Common.{◌≡◌, drop}
use Rattle.kilim_type_spec.specs.Step.{made_at}
use Rattle.kilim_type_step.proofs.construct.made_at.Given as goal

abbrev pub invariant-loop-index : goal.invariant-loop-index
invariant-loop-index l = made_at (drop l.index l.code) l.at ≡ made_at l.code l.at
