use Rattle.kilim_mail_worker.proofs.Handing.{has_still, keeps_same, keeps_then}
use Rattle.kilim_mail_worker.proofs.worker.work.Goals as goal

pub loop-init : goal.loop-init
loop-init g c = (keeps_same c.args.turns.now c.args.worker.now, c.requires.may.works)

pub work_once-requires-clause-may : goal.work_once-requires-clause-may
work_once-requires-clause-may g c κs _ =
    let may = c.requires.may in
    record { some = may.some; run = may.run; has = has_still c.args.turns.now c.args.worker.now c.loop.worker may.has c.loop.invariant.0; works = c.loop.invariant.1 }

pub loop-preserved : goal.loop-preserved
loop-preserved g c = (keeps_then c.args.turns.now c.args.worker.now c.loop.worker c.work_once.new.worker c.loop.invariant.0 c.work_once.ensures.worked.passes, c.work_once.ensures.more c.if-not-work_once.false)

pub returns-then-not-work_once : goal.returns-then-not-work_once
returns-then-not-work_once g c = record { passes = keeps_then c.args.turns.now c.args.worker.now c.loop.worker c.work_once.new.worker c.loop.invariant.0 c.work_once.ensures.worked.passes; works = c.work_once.ensures.worked.works }
