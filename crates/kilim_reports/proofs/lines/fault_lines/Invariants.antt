use Rattle.std.proofs.Common.{◌≡◌, take}
use Rattle.std.specs.List.{flat_map}
use Rattle.kilim_reports.specs.RuleLines.{fault_line}
use Rattle.kilim_reports.proofs.lines.fault_lines.Given as goal

abbrev pub invariant-loop-report : goal.invariant-loop-report
invariant-loop-report l = l.text.items ≡ flat_map (fault_line l.program) (take l.report-index l.reports)
