use Rattle.kilim_run_workers.specs.Given.{BeginsWith}
use Rattle.kilim_run_board.specs.Seen.{seen}
use Rattle.kilim_run_workers.specs.one_worker.Pool.{IsOf, IsResting, IsCalm, left}
use Rattle.kilim_run_workers.proofs.one_worker.go_on_one.Given as goal

abbrev pub invariant-loop-fiber : goal.invariant-loop-fiber
invariant-loop-fiber g l = IsResting g.F.Fibers.task_of g.F.Fibers.course_of g.F.Fibers.holds (IsOf g.F.Fibers.serves l.fn.code l.fn.main l.fn.limits) l.board × IsCalm g.F.Fibers.refused (seen l.board) × BeginsWith l.fn.board.journal.items l.board.journal.items

abbrev pub decreases-loop-fiber : goal.decreases-loop-fiber
decreases-loop-fiber g l = left g.F.Fibers.count_of l.fn.limits.steps (seen l.board)
