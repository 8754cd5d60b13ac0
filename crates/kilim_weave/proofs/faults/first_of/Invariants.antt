use Rattle.std.proofs.Common.{◌≡◌, drop}
use Rattle.kilim_weave.specs.Faults.{first_fault}
use Rattle.kilim_weave.proofs.faults.first_of.Given as goal

abbrev pub invariant-loop-at : goal.invariant-loop-at
invariant-loop-at l = first_fault l.program l.ids ≡ first_fault l.program (drop l.at l.ids)
