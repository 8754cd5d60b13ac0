use Rattle.std.proofs.Common.{◌≡◌, drop}
use Rattle.kilim_type_spec.specs.Typed.{halves}
use Rattle.kilim_type_verify.proofs.frames.halves.Given as goal

abbrev pub invariant-loop-at : goal.invariant-loop-at
invariant-loop-at l = halves (drop l.at l.types) ≡ halves l.types
