use Rattle.std.proofs.Common.{◌++◌}
use Rattle.kilim_isolation.specs.Faults.{merged}
use Rattle.kilim_isolation.proofs.Merging.{merge_more}
use Rattle.kilim_isolation.proofs.merge.push_merged.Goals as goal

pub loop-report-preserved : goal.loop-report-preserved
loop-report-preserved c =
    merge_more c.args.reports.now c.args.others.now c.loop-report.into c.push_earlier.new.into c.push_copy.new.into (c.args.into.now ++ merged c.args.reports.now c.args.others.now) c.loop-report.report-index c.loop-report.at c.in-Ok.next c.report-item.result
    c.loop-report-test.true c.report-item.is c.in-Ok.ensures.pushed c.in-Ok.ensures.rest c.in-Ok-push_copy.ensures c.loop-report.invariant
