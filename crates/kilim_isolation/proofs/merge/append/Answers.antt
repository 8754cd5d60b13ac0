use Rattle.std.proofs.Common.{◌∙◌, ◌++◌, List, ap, arith}
use Rattle.std.proofs.lemmas.List.{take_all}
use Rattle.kilim_isolation_pauses.specs.declared.report.Report.{Report}
use Rattle.kilim_isolation.proofs.Loops.{copied}
use Rattle.kilim_isolation.proofs.merge.append.Goals as goal

pub loop-report-preserved : goal.loop-report-preserved
loop-report-preserved c = copied c.args.into.now c.loop-report.into c.push_copy.new.into c.args.more.now c.loop-report.report-index c.report-item.result _ c.loop-report-test.true c.report-item.is c.loop-report.invariant c.in-Ok.ensures

pub returns : goal.returns
returns c = c.loop-report.invariant ∙ ap (λ (xs : List Report). c.args.into.now ++ xs) (take_all c.loop-report.report-index c.args.more.now (omega arith))
