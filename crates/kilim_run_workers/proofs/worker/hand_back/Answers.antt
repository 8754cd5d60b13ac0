use Rattle.std.proofs.Common.{ap, subst, sym, ◌∙◌}
use Rattle.kilim_run_turn.specs.Views.{cell_at}
use Rattle.kilim_run_turn.specs.Turns.{seat_of, KeepsOthers}
use Rattle.kilim_run_workers.specs.Codes.{board_cells}
use Rattle.kilim_run_workers.proofs.worker.hand_back.Goals as goal

pub leave-requires-clause-others : goal.leave-requires-clause-others
leave-requires-clause-others g c =
    let held = c.enter-held in
    subst (λ cells. KeepsOthers (seat_of held.new.pass) cells (board_cells c.give_back.new.self)) (sym held.ensures.lent) (subst (λ k. KeepsOthers k (board_cells held.result.value) (board_cells c.give_back.new.self)) c.seat.ensures c.give_back.ensures.others)

pub returns-clause-empty : goal.returns-clause-empty
returns-clause-empty g c = c.leave.ensures.cell ∙ (sym (ap (λ k. cell_at (board_cells c.give_back.new.self) k) c.seat.ensures) ∙ c.give_back.ensures.empty)
