use Rattle.std.proofs.Common.{◌≡◌, take}
use Rattle.kilim_run_workers.specs.one_worker.Pool.{IsOf}
use Rattle.kilim_run_follow.specs.Follow.{IsFollowing}
use Rattle.kilim_run_follow.proofs.following.follow_all.Given as goal

abbrev pub invariant-loop-at : goal.invariant-loop-at
invariant-loop-at g l = IsFollowing g.F.Fibers.task_of g.F.Fibers.course_of g.F.Fibers.holds g.F.Fibers.refused (IsOf g.F.Fibers.serves l.fn.code l.fn.main l.fn.limits) l.board × (l.board.journal.items ≡ take l.at l.fn.journal)
