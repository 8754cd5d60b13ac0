use Rattle.std.proofs.Common.{◌≡◌, drop}
use Rattle.kilim_isolation.specs.Mark.{slots_mixed}
use Rattle.kilim_isolation.proofs.mark.slots_mixed.Given as goal

abbrev pub invariant-loop-slot : goal.invariant-loop-slot
invariant-loop-slot l = slots_mixed l.mark (drop l.slot-index l.slots) ≡ slots_mixed l.fn.mark l.slots
