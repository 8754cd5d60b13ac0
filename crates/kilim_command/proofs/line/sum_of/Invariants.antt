use Rattle.std.proofs.Common.{◌≡◌, drop}
use Rattle.std.specs.Prelude.{pos}
use Rattle.kilim_command.specs.DemoLine.{sum_from}
use Rattle.kilim_command.proofs.line.sum_of.Given as goal

abbrev pub invariant-loop-entry : goal.invariant-loop-entry
invariant-loop-entry l = sum_from l.sum (drop l.entry-index l.journal) ≡ sum_from (pos 0) l.journal
