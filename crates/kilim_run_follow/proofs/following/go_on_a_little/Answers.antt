use Rattle.kilim_run_board.specs.Seen.{seen}
use Rattle.kilim_run_workers.specs.one_worker.Pool.{IsOf}
use Rattle.kilim_run_workers.proofs.one_worker.Lent.{lent_waits}
use Rattle.kilim_run_follow.proofs.Going.{task_calm, task_lending}
use Rattle.kilim_run_follow.proofs.following.go_on_a_little.Goals as goal

pub run_fiber-requires-clause-lending : goal.run_fiber-requires-clause-lending
run_fiber-requires-clause-lending g c = task_lending g.F.Fibers.task_of g.F.Fibers.course_of g.F.Fibers.holds (IsOf g.F.Fibers.serves c.args.code.now c.args.main c.args.limits.now) c.loop-task.board c.lend_task.new.board c.loop-task.task c.in-Some.fiber c.loop-task.invariant.0 c.in-Some.ensures.roomy c.in-Some.ensures.lent (λ set. c.in-Some.ensures.stands set)

pub run_fiber-requires-clause-calm : goal.run_fiber-requires-clause-calm
run_fiber-requires-clause-calm g c = (task_calm g.F.Fibers.refused g.F.Fibers.task_of (seen c.loop-task.board) (seen c.lend_task.new.board) c.loop-task.task c.in-Some.fiber c.in-Some.ensures.lent c.loop-task.invariant.1).0

pub run_fiber-requires-clause-waits : goal.run_fiber-requires-clause-waits
run_fiber-requires-clause-waits g c =
    lent_waits g.F.Fibers.refused g.F.Fibers.task_of 0 c.in-Some.fiber c.lend_task.new.board
    (task_calm g.F.Fibers.refused g.F.Fibers.task_of (seen c.loop-task.board) (seen c.lend_task.new.board) c.loop-task.task c.in-Some.fiber c.in-Some.ensures.lent c.loop-task.invariant.1).1
