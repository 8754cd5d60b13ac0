use Rattle.std.proofs.Common.{ap, subst, sym, ◌∙◌}
use Rattle.kilim_run_turn.specs.Views.{cell_at}
use Rattle.kilim_run_turn.specs.Turns.{seat_of, KeepsOthers}
use Rattle.kilim_run_workers.specs.Codes.{board_cells}
use Rattle.kilim_run_workers.specs.Runs.{IsTaken}
use Rattle.kilim_run_workers.proofs.worker.take_one.Goals as goal

pub returns-clause-taken : goal.returns-clause-taken
returns-clause-taken g c =
    subst (λ cell. IsTaken g.F.Fibers.task_of g.F.Fibers.course_of g.F.Fibers.holds g.K.Run.of cell c.lend-lent.result) (ap (λ k. cell_at (board_cells c.lend-lent.new.self) k) c.seat.ensures ∙ sym c.leave.ensures.cell) c.lend-lent.ensures.taken

pub leave-requires-clause-others : goal.leave-requires-clause-others
leave-requires-clause-others g c =
    let held = c.enter-held in
    subst (λ cells. KeepsOthers (seat_of held.new.pass) cells (board_cells c.lend-lent.new.self)) (sym held.ensures.lent) (subst (λ k. KeepsOthers k (board_cells held.result.value) (board_cells c.lend-lent.new.self)) c.seat.ensures c.lend-lent.ensures.others)
