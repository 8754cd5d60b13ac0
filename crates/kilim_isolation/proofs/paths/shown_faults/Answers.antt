use Rattle.std.proofs.Common.{map, refl, arith}
use Rattle.kilim_isolation.specs.Faults.{report_of}
use Rattle.kilim_isolation.proofs.Loops.{mapped_end, mapped_on}
use Rattle.kilim_isolation.proofs.paths.shown_faults.Goals as goal

pub loop-report-preserved : goal.loop-report-preserved
loop-report-preserved c =
    mapped_on (report_of c.args.id) c.loop-report.shown c.push_shown.new.shown (map (report_of c.args.id) c.args.reports.now) c.args.reports.now c.loop-report.report-index c.report-item.result _ (report_of c.args.id c.report-item.result)
    c.loop-report-test.true c.report-item.is c.loop-report.invariant refl c.in-Ok.ensures

pub returns : goal.returns
returns c = mapped_end (report_of c.args.id) c.loop-report.shown (map (report_of c.args.id) c.args.reports.now) c.args.reports.now c.loop-report.report-index (omega arith) c.loop-report.invariant
