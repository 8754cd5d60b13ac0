use Rattle.std.proofs.Common.{length}
use Rattle.kilim_run_turn.proofs.Passes.{Gathered}
use Rattle.kilim_run_turn.proofs.closing.gather.Given as goal

abbrev pub invariant-loop-pass : goal.invariant-loop-pass
invariant-loop-pass g l = Gathered l.shelf.table_id (length (g.B.Cells.cells l.shelf.key.value)) l.fn.passes.items l.passes.items l.seat.table_id l.seat.me

abbrev pub decreases-loop-pass : goal.decreases-loop-pass
decreases-loop-pass g l = goal.left-loop-pass g l
