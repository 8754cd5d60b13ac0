use Rattle.std.proofs.Common.{◌≡◌, Some, subst, sym, arith}
use Rattle.std.specs.Prelude.{slice_get}
use Rattle.kilim_run_board.specs.Seen.{seen, ActAnswers, IsNumbered}
use Rattle.kilim_run_board.proofs.Calls.{act_stands}
use Rattle.kilim_run_board.proofs.Closing.{same_cell, not_lent}
use Rattle.kilim_run_board.proofs.waiting.Lists.{got_within}
use Rattle.kilim_run_board.proofs.board.Board.act.Goals as goal

pub returns-clause-stands : goal.returns-clause-stands
returns-clause-stands g c = λ set t course lent at meets st.
    act_stands g.F.Fibers.task_of g.F.Fibers.course_of g.F.Fibers.count_of g.F.Fibers.refused g.F.Fibers.holds set (seen c.args.self.now) (seen c.act_for.new.self) c.args.seat t course c.args.wants c.act_for.result
    (subst (λ u. ActAnswers (IsNumbered g.F.Fibers.task_of g.F.Fibers.course_of g.F.Fibers.count_of g.F.Fibers.refused g.F.Fibers.holds) (seen c.args.self.now) c.args.seat u (seen c.act_for.new.self) c.args.wants c.act_for.result)
    (same_cell c.args.self.now.cells.items c.args.seat t c.in-Some.task c.index.result.now lent c.index.ensures c.in-Some.is) c.act_for.ensures.effect)
    lent at meets st

pub returns-clause-effect : goal.returns-clause-effect
returns-clause-effect g c = λ t lent.
    subst (λ u. ActAnswers (IsNumbered g.F.Fibers.task_of g.F.Fibers.course_of g.F.Fibers.count_of g.F.Fibers.refused g.F.Fibers.holds) (seen c.args.self.now) c.args.seat u (seen c.act_for.new.self) c.args.wants c.act_for.result)
    (same_cell c.args.self.now.cells.items c.args.seat t c.in-Some.task c.index.result.now lent c.index.ensures c.in-Some.is) c.act_for.ensures.effect

pub act_for-requires-clause-lent : goal.act_for-requires-clause-lent
act_for-requires-clause-lent g c =
    subst (λ u. slice_get c.args.self.now.cells.items c.args.seat ≡ Some (Some u))
    (sym (same_cell c.args.self.now.cells.items c.args.seat c.requires.lent.0 c.in-Some.task c.index.result.now c.requires.lent.1 c.index.ensures c.in-Some.is)) c.requires.lent.1

pub index-requires : goal.index-requires
index-requires g c =
    let h = got_within c.args.self.now.cells.items c.args.seat _ c.requires.lent.1 in
    let ok = c.args.self.now.cells.ok in omega arith

pub unreachable-requires : goal.unreachable-requires
unreachable-requires g c = not_lent c.args.self.now.cells.items c.args.seat c.requires.lent.0 c.index.result.now c.requires.lent.1 c.index.ensures c.in-None.is
