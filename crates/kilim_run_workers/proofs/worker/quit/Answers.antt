use Rattle.std.proofs.Common.{ap, subst, sym, ◌∙◌}
use Rattle.kilim_run_turn.specs.Views.{cell_at}
use Rattle.kilim_run_turn.specs.Turns.{seat_of, KeepsOthers}
use Rattle.kilim_run_workers.specs.Codes.{board_cells}
use Rattle.kilim_run_workers.proofs.worker.quit.Goals as goal

pub stop-requires : goal.stop-requires
stop-requires g c = record {
  lent = (
    c.requires.lent.0,
    c.requires.lent.1,
    ap (λ k. cell_at (board_cells c.enter-held.result.value) k) (c.seat.ensures ∙ c.enter-held.ensures.seat) ∙ (c.enter-held.ensures.cell ∙ c.requires.lent.2),
  );
}

pub leave-requires-clause-others : goal.leave-requires-clause-others
leave-requires-clause-others g c =
    let held = c.enter-held in
    subst (λ cells. KeepsOthers (seat_of held.new.pass) cells (board_cells c.stop.new.self)) (sym held.ensures.lent) (subst (λ k. KeepsOthers k (board_cells held.result.value) (board_cells c.stop.new.self)) c.seat.ensures c.stop.ensures.others)

pub returns-clause-empty : goal.returns-clause-empty
returns-clause-empty g c = c.leave.ensures.cell ∙ (sym (ap (λ k. cell_at (board_cells c.stop.new.self) k) c.seat.ensures) ∙ c.stop.ensures.empty)
