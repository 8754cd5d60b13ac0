use Rattle.std.proofs.Common.{take}
use Rattle.kilim_isolation_paths.proofs.Loops.{AreReportsOf}
use Rattle.kilim_isolation_paths.proofs.report.reports.Given as goal

abbrev pub invariant-loop-fault : goal.invariant-loop-fault
invariant-loop-fault g l = AreReportsOf l.store.entries l.found (take l.fault-index l.found) l.reports
