use Rattle.std.specs.Prelude.{◌⊎◌, ◌≡◌, []}
use Rattle.kilim_run_workers.specs.Given.{EndsInOne}
use Rattle.kilim_run_board.specs.Seen.{seen}
use Rattle.kilim_run_workers.specs.one_worker.Pool.{IsOf, IsResting, IsCalm, left}
use Rattle.kilim_run_workers.proofs.one_worker.run_some.Given as goal

abbrev pub invariant-loop-main : goal.invariant-loop-main
invariant-loop-main g l = IsResting g.F.Fibers.task_of g.F.Fibers.course_of g.F.Fibers.holds (IsOf g.F.Fibers.serves l.fn.code l.fn.main l.fn.limits) l.board × IsCalm g.F.Fibers.refused (seen l.board) × ((l.board.journal.items ≡ []) ⊎ EndsInOne l.fn.entries l.board.journal.items)

abbrev pub decreases-loop-main : goal.decreases-loop-main
decreases-loop-main g l = left g.F.Fibers.count_of l.fn.limits.steps (seen l.board)
