use Rattle.std.proofs.Common.{◌≡◌, drop}
use Rattle.kilim_program.specs.Same.{same_qualifiers}
use Rattle.kilim_link_override_faults.proofs.overrides.same_qualifiers.Given as goal

abbrev pub invariant-loop-i : goal.invariant-loop-i
invariant-loop-i l = same_qualifiers (drop l.i l.a) (drop l.i l.b) ≡ same_qualifiers l.a l.b
