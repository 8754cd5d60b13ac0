use Rattle.std.proofs.Common.{◌≡◌}
use Rattle.kilim_weave.specs.Faults.{first_fault, weave_fault}
use Rattle.kilim_weave.proofs.Searching.{methods_from}
use Rattle.kilim_weave.proofs.faults.weave_fault.Given as goal

abbrev pub invariant-loop-at : goal.invariant-loop-at
invariant-loop-at l = weave_fault l.program ≡ first_fault l.program (methods_from l.at l.program.classes)
