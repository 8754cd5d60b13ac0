use Rattle.std.proofs.Common.{refl, ◌∙◌}
use Rattle.kilim_run_workers.proofs.worker.run_worker.Goals as goal

pub loop-init : goal.loop-init
loop-init g c = let may = c.requires.may in record { pass = may.pass; seat = refl; empty = may.free }

pub work_once-requires-clause-may : goal.work_once-requires-clause-may
work_once-requires-clause-may g c κs _ =
    let may = c.requires.may in
    let worked = c.loop.invariant in
    record { some = may.some; run = may.run; pass = worked.pass; free = worked.empty }

pub loop-preserved : goal.loop-preserved
loop-preserved g c = let next = c.work_once.ensures in record { pass = next.pass; seat = next.seat ∙ c.loop.invariant.seat; empty = next.empty }
