use Rattle.std.proofs.Common.{subst, ap, ◌∙◌}
use Rattle.kilim_run_board.specs.Seen.{seen}
use Rattle.kilim_run_turn.specs.Views.{cell_at}
use Rattle.kilim_run_turn.specs.Turns.{KeepsOthers}
use Rattle.kilim_run_workers.specs.Codes.{board_cells}
use Rattle.kilim_run_workers.proofs.Numbers.{is_lent}
use Rattle.kilim_run_workers.proofs.Effects.{give_others, give_empty}
use Rattle.kilim_run_workers.proofs.Given.{give_continues}
use Rattle.kilim_run_workers.proofs.run.RunBoard.give_back.Goals as goal

pub give_back-requires-clause-lent : goal.give_back-requires-clause-lent
give_back-requires-clause-lent g c = (is_lent (seen c.self.inside.board) c.args.seat (g.F.Fibers.task_of c.args.fiber) (g.F.Fibers.course_of c.args.fiber) (ap (λ b. cell_at (board_cells b) c.args.seat) c.self.view_is ∙ c.requires.lent)).0

pub invariant_of-self : goal.invariant_of-self
invariant_of-self g c =
    (c.give_back.ensures.roomy, λ set is. c.give_back.ensures.stands set (c.self.invariant.1 set is) (c.requires.rests set is) (is_lent (seen c.self.inside.board) c.args.seat (g.F.Fibers.task_of c.args.fiber) (g.F.Fibers.course_of c.args.fiber) (ap (λ b. cell_at (board_cells b) c.args.seat) c.self.view_is ∙ c.requires.lent)).1, give_continues g.K.Run.given (seen c.self.inside.board) (seen c.give_back.new.self) c.args.seat c.self.invariant.2 c.args.fiber c.args.waits c.give_back.ensures.effect)

pub returns-clause-others : goal.returns-clause-others
returns-clause-others g c = subst (λ b. KeepsOthers c.args.seat (board_cells b) (board_cells c.give_back.new.self)) c.self.view_is (give_others (seen c.self.inside.board) (seen c.give_back.new.self) c.args.seat c.args.fiber c.args.waits c.give_back.ensures.effect)

pub returns-clause-empty : goal.returns-clause-empty
returns-clause-empty g c = give_empty (seen c.self.inside.board) (seen c.give_back.new.self) c.args.seat c.args.fiber c.args.waits (g.F.Fibers.task_of c.args.fiber) (is_lent (seen c.self.inside.board) c.args.seat (g.F.Fibers.task_of c.args.fiber) (g.F.Fibers.course_of c.args.fiber) (ap (λ b. cell_at (board_cells b) c.args.seat) c.self.view_is ∙ c.requires.lent)).0 c.give_back.ensures.effect
