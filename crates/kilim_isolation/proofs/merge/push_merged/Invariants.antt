use Rattle.std.proofs.Common.{◌≡◌, ◌++◌, drop}
use Rattle.kilim_isolation.specs.Faults.{merged}
use Rattle.kilim_isolation.proofs.merge.push_merged.Given as goal

abbrev pub invariant-loop-report : goal.invariant-loop-report
invariant-loop-report l = l.into ++ merged (drop l.report-index l.reports) (drop l.at l.others) ≡ l.fn.into ++ merged l.reports l.others
