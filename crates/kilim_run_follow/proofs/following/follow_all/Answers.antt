use Rattle.std.proofs.Common.{subst}
use Rattle.kilim_run_workers.specs.one_worker.Pool.{IsOf}
use Rattle.kilim_run_follow.specs.Steps.{FollowsEntry}
use Rattle.kilim_run_follow.proofs.Journals.{differs_now}
use Rattle.kilim_run_follow.proofs.following.follow_all.Goals as goal

pub returns-in-Ok-false : goal.returns-in-Ok-false
returns-in-Ok-false g c =
    let none = subst (λ r. FollowsEntry g.F.Fibers.task_of g.F.Fibers.course_of g.F.Fibers.holds g.F.Fibers.refused (IsOf g.F.Fibers.serves c.args.code.now c.args.main c.args.limits.now) c.loop-at.board.journal.items c.index-journal-at.result c.follow_entry.new.board r) c.in-Ok-false.field-0-test c.in-Ok-false.ensures in
    differs_now g.F.Fibers.task_of g.F.Fibers.course_of g.F.Fibers.holds g.F.Fibers.refused (IsOf g.F.Fibers.serves c.args.code.now c.args.main c.args.limits.now) c.args.journal.now c.index-journal-at.result c.loop-at.at c.loop-at.board c.loop-at.invariant.0 c.loop-at.invariant.1 c.loop-at-test.true c.index-journal-at.is none
