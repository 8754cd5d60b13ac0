use Rattle.std.proofs.Common.{subst, ap, ◌∙◌, ◌<◌, length, sym}
use Rattle.kilim_run_board.specs.Seen.{seen, LendAnswers}
use Rattle.kilim_run_turn.specs.Views.{cell_at}
use Rattle.kilim_run_turn.specs.Turns.{KeepsOthers}
use Rattle.kilim_run_workers.specs.Codes.{board_cells}
use Rattle.kilim_run_workers.proofs.Effects.{lend_others, lend_taken}
use Rattle.kilim_run_workers.proofs.Numbers.{as_many, is_free}
use Rattle.kilim_run_workers.proofs.Given.{lend_continues}
use Rattle.kilim_run_workers.proofs.run.RunBoard.lend.Goals as goal

pub returns-clause-others : goal.returns-clause-others
returns-clause-others g c = subst (λ b. KeepsOthers c.args.seat (board_cells b) (board_cells c.lend.new.self)) c.self.view_is (lend_others (seen c.self.inside.board) (seen c.lend.new.self) c.args.seat g.F.Fibers.task_of c.lend.result c.lend.ensures.effect)

pub returns-clause-taken : goal.returns-clause-taken
returns-clause-taken g c =
    lend_taken (seen c.self.inside.board) (seen c.lend.new.self) c.args.seat g.F.Fibers.task_of g.F.Fibers.course_of g.F.Fibers.holds g.K.Run.of c.requires.some c.lend.result c.lend.ensures.effect
    (as_many (seen c.self.inside.board) c.args.seat (subst (λ b. c.args.seat < length (board_cells b)) (sym c.self.view_is) c.requires.there)) (ap (λ b. cell_at (board_cells b) c.args.seat) c.self.view_is ∙ c.requires.free)
    (λ set is. (c.lend.ensures.stands set (c.self.invariant.1 set is)).1)

pub lend-requires-clause-free : goal.lend-requires-clause-free
lend-requires-clause-free g c =
    is_free (seen c.self.inside.board) c.args.seat (as_many (seen c.self.inside.board) c.args.seat (subst (λ b. c.args.seat < length (board_cells b)) (sym c.self.view_is) c.requires.there)) (ap (λ b. cell_at (board_cells b) c.args.seat) c.self.view_is ∙ c.requires.free)

pub invariant_of-self : goal.invariant_of-self
invariant_of-self g c = (c.lend.ensures.roomy, λ set is. (c.lend.ensures.stands set (c.self.invariant.1 set is)).0, lend_continues g.K.Run.given (seen c.self.inside.board) (seen c.lend.new.self) c.args.seat c.self.invariant.2 g.F.Fibers.task_of c.lend.result c.lend.ensures.effect)

pub returns-clause-effect : goal.returns-clause-effect
returns-clause-effect g c = subst (λ b. LendAnswers g.F.Fibers.task_of (seen b) c.args.seat (seen c.lend.new.self) c.lend.result) c.self.view_is c.lend.ensures.effect
