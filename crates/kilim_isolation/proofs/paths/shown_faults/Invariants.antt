use Rattle.std.proofs.Common.{◌≡◌, ◌++◌, map, drop}
use Rattle.kilim_isolation.specs.Faults.{report_of}
use Rattle.kilim_isolation.proofs.paths.shown_faults.Given as goal

abbrev pub invariant-loop-report : goal.invariant-loop-report
invariant-loop-report l = l.shown ++ map (report_of l.id) (drop l.report-index l.reports) ≡ map (report_of l.id) l.reports
