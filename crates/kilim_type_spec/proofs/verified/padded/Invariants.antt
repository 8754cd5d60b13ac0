use Rattle.std.proofs.Common.{◌≡◌, ◌++◌, ◌-◌, drop}
use Rattle.kilim_type_spec.specs.Typed.{padded}
use Rattle.kilim_type_spec.proofs.verified.padded.Given as goal

abbrev pub invariant-loop-at : goal.invariant-loop-at
invariant-loop-at l = l.slots.items ++ padded (l.count - l.at) (drop l.at l.types) ≡ padded l.count l.types
