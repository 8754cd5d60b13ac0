use Rattle.kilim_run_board.specs.Seen.{seen}
use Rattle.kilim_run_workers.specs.Given.{BeginsWith}
use Rattle.kilim_run_workers.specs.one_worker.Pool.{IsCalm, IsOf, IsResting}
use Rattle.kilim_run_follow.proofs.following.go_on_a_little.Given as goal

abbrev pub invariant-loop-task : goal.invariant-loop-task
invariant-loop-task g l = IsResting g.F.Fibers.task_of g.F.Fibers.course_of g.F.Fibers.holds (IsOf g.F.Fibers.serves l.fn.code l.fn.main l.fn.limits) l.board × IsCalm g.F.Fibers.refused (seen l.board) × BeginsWith l.fn.board.journal.items l.board.journal.items
