use Rattle.std.proofs.Common.{◌≡◌, drop}
use Rattle.kilim_isolation.specs.Mark.{locals_mixed}
use Rattle.kilim_isolation.proofs.mark.locals_mixed.Given as goal

abbrev pub invariant-loop-at : goal.invariant-loop-at
invariant-loop-at l = locals_mixed l.mark l.at (drop l.at l.slots) ≡ locals_mixed l.fn.mark 0 l.slots
