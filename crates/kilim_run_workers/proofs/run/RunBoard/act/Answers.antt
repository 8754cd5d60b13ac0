use Rattle.std.proofs.Common.{ap, ◌∙◌, subst}
use Rattle.kilim_run_board.specs.Seen.{seen, IsNumbered}
use Rattle.kilim_run_turn.specs.Views.{cell_at}
use Rattle.kilim_run_turn.specs.Turns.{KeepsOthers}
use Rattle.kilim_run_workers.specs.Codes.{board_cells}
use Rattle.kilim_run_workers.proofs.Effects.{all_keep, lent_now, stands_now, others_now, acted_now, bounds_now, is_actable}
use Rattle.kilim_run_workers.proofs.Others.{cells_same}
use Rattle.kilim_run_workers.proofs.Given.{act_continues, same_begins}
use Rattle.kilim_run_workers.proofs.run.RunBoard.act.Goals as goal

pub act-requires-clause-lent : goal.act-requires-clause-lent
act-requires-clause-lent g c = (
  _,
  (lent_now (seen c.self.inside.board) (seen c.reserve.new.self) c.args.seat (g.F.Fibers.task_of c.args.fiber.now) (g.F.Fibers.course_of c.args.fiber.now) c.args.wants g.F.Fibers.task_of g.F.Fibers.course_of g.F.Fibers.holds g.K.Run.of c.requires.some
      (ap (λ b. cell_at (board_cells b) c.args.seat) c.self.view_is ∙ c.requires.lent) c.in-Ok.ensures.same c.requires.meets (λ set is. c.in-Ok.ensures.stands set (c.self.invariant.1 set is))).0,
)

pub act-requires-clause-acts : goal.act-requires-clause-acts
act-requires-clause-acts g c = is_actable (seen c.self.inside.board) (seen c.self.inside.board) c.args.seat g.F.Fibers.task_of g.F.Fibers.course_of g.F.Fibers.holds g.K.Run.of c.requires.some g.F.Fibers.count_of (g.F.Fibers.task_of c.args.fiber.now) (g.F.Fibers.course_of c.args.fiber.now) c.args.wants c.requires.meets c.requires.none

pub act-requires-clause-bounds : goal.act-requires-clause-bounds
act-requires-clause-bounds g c =
    bounds_now (seen c.self.inside.board) (seen c.reserve.new.self) c.args.seat (g.F.Fibers.task_of c.args.fiber.now) (g.F.Fibers.course_of c.args.fiber.now) c.args.wants g.F.Fibers.task_of g.F.Fibers.course_of g.F.Fibers.holds g.K.Run.of c.requires.some
    (ap (λ b. cell_at (board_cells b) c.args.seat) c.self.view_is ∙ c.requires.lent) c.in-Ok.ensures.same c.requires.meets (λ set is. c.in-Ok.ensures.stands set (c.self.invariant.1 set is)) g.F.Fibers.count_of g.F.Fibers.refused

pub invariant_of-self : goal.invariant_of-self
invariant_of-self g c = (
  c.act.ensures.roomy,
  λ set is. (stands_now (seen c.self.inside.board) (seen c.reserve.new.self) c.args.seat (g.F.Fibers.task_of c.args.fiber.now) (g.F.Fibers.course_of c.args.fiber.now) c.args.wants g.F.Fibers.task_of g.F.Fibers.course_of g.F.Fibers.holds g.K.Run.of c.requires.some
      (ap (λ b. cell_at (board_cells b) c.args.seat) c.self.view_is ∙ c.requires.lent) c.in-Ok.ensures.same c.requires.meets (λ set is. c.in-Ok.ensures.stands set (c.self.invariant.1 set is)) (seen c.act.new.self) c.act.result c.act.ensures.stands set is).0,
  act_continues g.K.Run.given (seen c.reserve.new.self) (seen c.act.new.self) c.args.seat (same_begins g.K.Run.given (seen c.self.inside.board).journal (seen c.reserve.new.self).journal c.in-Ok.ensures.same.run.journal c.self.invariant.2)
      (IsNumbered g.F.Fibers.task_of g.F.Fibers.course_of g.F.Fibers.count_of g.F.Fibers.refused g.F.Fibers.holds) _ c.args.wants c.act.result
      (c.act.ensures.effect _ (lent_now (seen c.self.inside.board) (seen c.reserve.new.self) c.args.seat (g.F.Fibers.task_of c.args.fiber.now) (g.F.Fibers.course_of c.args.fiber.now) c.args.wants g.F.Fibers.task_of g.F.Fibers.course_of g.F.Fibers.holds g.K.Run.of c.requires.some
      (ap (λ b. cell_at (board_cells b) c.args.seat) c.self.view_is ∙ c.requires.lent) c.in-Ok.ensures.same c.requires.meets (λ set is. c.in-Ok.ensures.stands set (c.self.invariant.1 set is))).0),
)

pub returns-in-Ok-clause-others : goal.returns-in-Ok-clause-others
returns-in-Ok-clause-others g c =
    subst (λ b. KeepsOthers c.args.seat (board_cells b) (board_cells c.act.new.self)) c.self.view_is
    (others_now (seen c.self.inside.board) (seen c.reserve.new.self) c.args.seat (g.F.Fibers.task_of c.args.fiber.now) (g.F.Fibers.course_of c.args.fiber.now) c.args.wants g.F.Fibers.task_of g.F.Fibers.course_of g.F.Fibers.holds g.K.Run.of c.requires.some
    (ap (λ b. cell_at (board_cells b) c.args.seat) c.self.view_is ∙ c.requires.lent) c.in-Ok.ensures.same c.requires.meets (λ set is. c.in-Ok.ensures.stands set (c.self.invariant.1 set is)) (seen c.act.new.self) c.act.result c.act.ensures.stands
    (IsNumbered g.F.Fibers.task_of g.F.Fibers.course_of g.F.Fibers.count_of g.F.Fibers.refused g.F.Fibers.holds) c.act.ensures.effect)

pub returns-in-Ok-clause-acted : goal.returns-in-Ok-clause-acted
returns-in-Ok-clause-acted g c =
    acted_now (seen c.self.inside.board) (seen c.reserve.new.self) c.args.seat (g.F.Fibers.task_of c.args.fiber.now) (g.F.Fibers.course_of c.args.fiber.now) c.args.wants g.F.Fibers.task_of g.F.Fibers.course_of g.F.Fibers.holds g.K.Run.of c.requires.some
    (ap (λ b. cell_at (board_cells b) c.args.seat) c.self.view_is ∙ c.requires.lent) c.in-Ok.ensures.same c.requires.meets (λ set is. c.in-Ok.ensures.stands set (c.self.invariant.1 set is)) (seen c.act.new.self) c.act.result c.act.ensures.stands
    (IsNumbered g.F.Fibers.task_of g.F.Fibers.course_of g.F.Fibers.count_of g.F.Fibers.refused g.F.Fibers.holds) c.act.ensures.effect

pub returns-in-Err-clause-others : goal.returns-in-Err-clause-others
returns-in-Err-clause-others g c =
    subst (λ b. KeepsOthers c.args.seat (board_cells b) (board_cells c.reserve.new.self)) c.self.view_is
    (all_keep c.args.seat _ _ (cells_same (seen c.self.inside.board) (seen c.reserve.new.self) c.args.seat c.in-Err.ensures.same.run.journal c.in-Err.ensures.same.spots.cells))

pub invariant_of-self-in-Err : goal.invariant_of-self-in-Err
invariant_of-self-in-Err g c = (
  c.in-Err.ensures.roomy,
  λ set is. c.in-Err.ensures.stands set (c.self.invariant.1 set is),
  same_begins g.K.Run.given (seen c.self.inside.board).journal (seen c.reserve.new.self).journal c.in-Err.ensures.same.run.journal c.self.invariant.2,
)
