use Rattle.std.proofs.Common.{◌∙◌, ap}
use Rattle.std.proofs.lemmas.List.{take_all}
use Rattle.std.specs.List.{flat_map}
use Rattle.kilim_reports.specs.RuleLines.{fault_line}
use Rattle.kilim_reports.proofs.Loops.{joined}
use Rattle.kilim_reports.proofs.lines.fault_lines.Goals as goal

pub loop-report-preserved : goal.loop-report-preserved
loop-report-preserved c = joined (fault_line c.args.program.now) c.loop-report.text.items c.push_fault.new.text.items c.args.reports.now c.loop-report.report-index c.report-item.result _ c.loop-report-test.true c.report-item.is c.loop-report.invariant c.in-Ok.ensures

pub returns : goal.returns
returns c = c.loop-report.invariant ∙ ap (flat_map (fault_line c.args.program.now)) (take_all c.loop-report.report-index c.args.reports.now c.loop-report-test.false)
