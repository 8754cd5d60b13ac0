use Rattle.std.proofs.Common.{◌≡◌, drop}
use Rattle.kilim_program.specs.Same.{same_types}
use Rattle.kilim_program.proofs.lookups.methods.same_types.Given as goal

abbrev pub invariant-loop-at : goal.invariant-loop-at
invariant-loop-at l = same_types (drop l.at l.a) (drop l.at l.b) ≡ same_types l.fn.a l.fn.b
