use Rattle.std.proofs.Common.{◌≡◌, ◌-◌, vec_len}
use Rattle.kilim_type_spec.specs.Step.{poke}
use Rattle.kilim_type_step.proofs.state.poke.Given as goal

abbrev pub invariant-loop-types : goal.invariant-loop-types
invariant-loop-types l = poke l.types.items l.slot l.t ≡ poke l.fn.types.items l.slot l.t

abbrev pub decreases-loop-types : goal.decreases-loop-types
decreases-loop-types l = l.slot - vec_len l.types
