use Rattle.std.proofs.Common.{◌++◌, ap, length, arith}
use Rattle.kilim_isolation_pauses.specs.Pausing.{reports_along}
use Rattle.kilim_isolation_pauses.proofs.Along.{along_more, along_end}
use Rattle.kilim_isolation_pauses.proofs.pausing.push_along.Goals as goal

pub loop-at-preserved : goal.loop-at-preserved
loop-at-preserved c =
    along_more c.args.program.now c.args.id c.args.method.now c.as_slice-code.result.now c.args.method.now.code c.args.frames.now c.loop-at.at c.index-code-at.result _ c.index-frames-at.result _ c.loop-at.reports c.push_at.new.reports
    (c.args.reports.now ++ reports_along c.args.program.now c.args.id c.args.method.now c.args.method.now.code c.args.frames.now) c.as_slice-code.ensures (omega arith) (omega arith) c.index-code-at.is c.index-frames-at.is c.loop-at.invariant
    c.in_ok-push_at.ensures

pub returns : goal.returns
returns c =
    along_end c.args.program.now c.args.id c.args.method.now c.args.method.now.code c.args.frames.now c.loop-at.reports (c.args.reports.now ++ reports_along c.args.program.now c.args.id c.args.method.now c.args.method.now.code c.args.frames.now) c.loop-at.at (omega (arith, ap length c.as_slice-code.ensures)) c.loop-at.invariant
