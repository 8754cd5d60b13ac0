use Rattle.std.proofs.Common.{◌≡◌, []}
use Rattle.kilim_run_board.specs.Seen.{seen}
use Rattle.kilim_run_workers.specs.one_worker.Pool.{IsOf, IsLending, IsCalm, WaitsAt, todo}
use Rattle.kilim_run_follow.proofs.steps.make_entry.Given as goal

abbrev pub invariant-loop-next : goal.invariant-loop-next
invariant-loop-next g l =
    IsLending g.F.Fibers.task_of g.F.Fibers.course_of g.F.Fibers.holds (IsOf g.F.Fibers.serves l.fn.code l.fn.main l.fn.limits) l.board l.fiber × IsCalm g.F.Fibers.refused (seen l.board) × WaitsAt g.F.Fibers.refused l.board l.fiber
    × (l.board.parked.items ≡ []) × (g.F.Fibers.task_of l.fiber ≡ g.F.Fibers.task_of l.fn.fiber) × (l.board.journal.items ≡ l.fn.board.journal.items)

abbrev pub decreases-loop-next : goal.decreases-loop-next
decreases-loop-next g l = todo g.F.Fibers.count_of g.F.Fibers.refused l.fn.limits.steps l.board l.fiber
