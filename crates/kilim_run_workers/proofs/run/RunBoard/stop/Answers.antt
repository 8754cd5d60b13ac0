use Rattle.std.proofs.Common.{subst, ap, ◌∙◌}
use Rattle.kilim_run_board.specs.Seen.{seen}
use Rattle.kilim_run_turn.specs.Views.{cell_at}
use Rattle.kilim_run_turn.specs.Turns.{KeepsOthers}
use Rattle.kilim_run_workers.specs.Codes.{board_cells}
use Rattle.kilim_run_workers.proofs.Numbers.{inside, is_lent}
use Rattle.kilim_run_workers.proofs.Effects.{stop_others, emptied}
use Rattle.std.specs.Prelude.{Some}
use Rattle.kilim_run_workers.proofs.Given.{same_begins}
use Rattle.kilim_run_workers.proofs.run.RunBoard.stop.Goals as goal

pub invariant_of-self : goal.invariant_of-self
invariant_of-self g c =
    let l = c.requires.lent in
    (c.stop.ensures.roomy, λ set is. c.stop.ensures.stands set l.0 (is_lent (seen c.self.inside.board) c.args.seat l.0 l.1 (ap (λ b. cell_at (board_cells b) c.args.seat) c.self.view_is ∙ l.2)).0 (c.self.invariant.1 set is), same_begins g.K.Run.given (seen c.self.inside.board).journal (seen c.stop.new.self).journal c.stop.ensures.effect.run.journal c.self.invariant.2)

pub returns-clause-others : goal.returns-clause-others
returns-clause-others g c = subst (λ b. KeepsOthers c.args.seat (board_cells b) (board_cells c.stop.new.self)) c.self.view_is (stop_others (seen c.self.inside.board) (seen c.stop.new.self) c.args.seat c.stop.ensures.effect)

pub returns-clause-empty : goal.returns-clause-empty
returns-clause-empty g c = let l = c.requires.lent in emptied (seen c.self.inside.board) (seen c.stop.new.self) c.args.seat (Some l.0) (is_lent (seen c.self.inside.board) c.args.seat l.0 l.1 (ap (λ b. cell_at (board_cells b) c.args.seat) c.self.view_is ∙ l.2)).0 c.stop.ensures.effect.cells

pub stop-requires-clause-there : goal.stop-requires-clause-there
stop-requires-clause-there g c =
    let l = c.requires.lent in inside c.self.inside.board.cells.items c.args.seat (Some l.0) (is_lent (seen c.self.inside.board) c.args.seat l.0 l.1 (ap (λ b. cell_at (board_cells b) c.args.seat) c.self.view_is ∙ l.2)).0
