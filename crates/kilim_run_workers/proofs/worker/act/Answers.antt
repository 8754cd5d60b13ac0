use Rattle.std.proofs.Common.{ap, subst, sym, ◌∙◌}
use Rattle.std.specs.Prelude.{IfOk}
use Rattle.kilim_run_board.specs.Seen.{wish_in}
use Rattle.kilim_run_turn.specs.Views.{cell_at}
use Rattle.kilim_run_turn.specs.Turns.{seat_of, KeepsOthers}
use Rattle.kilim_run_workers.specs.Codes.{board_cells}
use Rattle.kilim_run_workers.specs.Runs.{ActedAs}
use Rattle.kilim_run_workers.proofs.worker.act.Goals as goal

pub returns-clause-acted : goal.returns-clause-acted
returns-clause-acted g c =
    subst (λ cell. IfOk c.act-acted.result (λ a. ActedAs g.K.Run.of (g.F.Fibers.task_of c.args.fiber.now) (g.F.Fibers.course_of c.args.fiber.now) cell (wish_in c.args.wants) a)) (ap (λ k. cell_at (board_cells c.act-acted.new.self) k) c.seat.ensures ∙ sym c.leave.ensures.cell) c.act-acted.ensures.acted

pub leave-requires-clause-others : goal.leave-requires-clause-others
leave-requires-clause-others g c =
    let held = c.enter-held in
    subst (λ cells. KeepsOthers (seat_of held.new.pass) cells (board_cells c.act-acted.new.self)) (sym held.ensures.lent) (subst (λ k. KeepsOthers k (board_cells held.result.value) (board_cells c.act-acted.new.self)) c.seat.ensures c.act-acted.ensures.others)
