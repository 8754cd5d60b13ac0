use Rattle.std.proofs.Common.{◌<◌, ◌≤◌, ◌∙◌, ap, arith, refl, subst, ℕ}
use Rattle.kilim_run_workers.specs.Given.{Grew}
use Rattle.kilim_run_workers.proofs.Given.{gives_grew, grew_more, grew_none, next_grew}
use Rattle.std.specs.Prelude.{slice_get}
use Rattle.kilim_run_board.specs.Seen.{seen}
use Rattle.kilim_run_workers.specs.one_worker.Pool.{IsOf, NextIs, Falls, left, todo}
use Rattle.kilim_run_workers.proofs.one_worker.Steps.{given}
use Rattle.kilim_run_workers.proofs.one_worker.run_fiber.Goals as goal

pub loop-next-init : goal.loop-next-init
loop-next-init g c = (c.requires.lending, c.requires.calm, c.requires.waits, omega arith, refl, grew_none (g.F.Fibers.task_of c.args.fiber) _ _ refl)

pub advance-requires : goal.advance-requires
advance-requires g c = record { some = c.requires.some; lending = c.loop-next.invariant.0; calm = c.loop-next.invariant.1; waits = c.loop-next.invariant.2 }

pub loop-next-smaller : goal.loop-next-smaller
loop-next-smaller g c = (subst (λ n. Falls g.F.Fibers.count_of g.F.Fibers.refused c.args.limits.now.steps (todo g.F.Fibers.count_of g.F.Fibers.refused c.args.limits.now.steps c.loop-next.board c.loop-next.fiber) c.advance.new.board c.advance.new.fiber n) c.in-On.is c.in-Ok.ensures.falls).2

pub loop-next-preserved : goal.loop-next-preserved
loop-next-preserved g c =
    let before = todo g.F.Fibers.count_of g.F.Fibers.refused c.args.limits.now.steps c.loop-next.board c.loop-next.fiber in
    let falls = subst (λ n. Falls g.F.Fibers.count_of g.F.Fibers.refused c.args.limits.now.steps before c.advance.new.board c.advance.new.fiber n) c.in-On.is c.in-Ok.ensures.falls in
    let less : todo g.F.Fibers.count_of g.F.Fibers.refused c.args.limits.now.steps c.advance.new.board c.advance.new.fiber < before = falls.2 in
    let most : before ≤ todo g.F.Fibers.count_of g.F.Fibers.refused c.args.limits.now.steps c.args.board.now c.args.fiber = c.loop-next.invariant.3 in (
      subst (λ n. NextIs g.F.Fibers.task_of g.F.Fibers.course_of g.F.Fibers.holds (IsOf g.F.Fibers.serves c.args.code.now c.args.main c.args.limits.now) c.advance.new.board c.advance.new.fiber n) c.in-On.is c.in-Ok.ensures.next,
      falls.0,
      falls.1,
      omega (arith, less, most),
      c.in-Ok.ensures.task ∙ c.loop-next.invariant.4,
      (grew_more (g.F.Fibers.task_of c.args.fiber) c.args.board.now.journal.items c.loop-next.board.journal.items c.advance.new.board.journal.items c.loop-next.invariant.5 (subst (λ (k : ℕ). Grew k c.loop-next.board.journal.items c.advance.new.board.journal.items) c.loop-next.invariant.4 (next_grew (g.F.Fibers.task_of c.loop-next.fiber) c.loop-next.board.journal.items c.advance.new.board.journal.items (g.F.Fibers.refused c.advance.new.fiber) c.in-Ok.next c.in-Ok.ensures.made))),
    )

pub returns-in-Over : goal.returns-in-Over
returns-in-Over g c =
    let before = todo g.F.Fibers.count_of g.F.Fibers.refused c.args.limits.now.steps c.loop-next.board c.loop-next.fiber in
    let falls = subst (λ n. Falls g.F.Fibers.count_of g.F.Fibers.refused c.args.limits.now.steps before c.advance.new.board c.advance.new.fiber n) c.in-Over.is c.in-Ok.ensures.falls in
    let less : left g.F.Fibers.count_of c.args.limits.now.steps (seen c.advance.new.board) ≤ before = falls.1 in
    let most : before ≤ todo g.F.Fibers.count_of g.F.Fibers.refused c.args.limits.now.steps c.args.board.now c.args.fiber = c.loop-next.invariant.3 in
    record {
      rest = subst (λ n. NextIs g.F.Fibers.task_of g.F.Fibers.course_of g.F.Fibers.holds (IsOf g.F.Fibers.serves c.args.code.now c.args.main c.args.limits.now) c.advance.new.board c.advance.new.fiber n) c.in-Over.is c.in-Ok.ensures.next;
      falls = (falls.0, omega (arith, less, most));
      grows = (grew_more (g.F.Fibers.task_of c.args.fiber) c.args.board.now.journal.items c.loop-next.board.journal.items c.advance.new.board.journal.items c.loop-next.invariant.5 (subst (λ (k : ℕ). Grew k c.loop-next.board.journal.items c.advance.new.board.journal.items) c.loop-next.invariant.4 (next_grew (g.F.Fibers.task_of c.loop-next.fiber) c.loop-next.board.journal.items c.advance.new.board.journal.items (g.F.Fibers.refused c.advance.new.fiber) c.in-Ok.next c.in-Ok.ensures.made)));
    }

pub give_back-requires : goal.give_back-requires
give_back-requires g c =
    let lending = (subst (λ n. NextIs g.F.Fibers.task_of g.F.Fibers.course_of g.F.Fibers.holds (IsOf g.F.Fibers.serves c.args.code.now c.args.main c.args.limits.now) c.advance.new.board c.advance.new.fiber n) c.in-Rests.is c.in-Ok.ensures.next).0 in
    record { lent = ap (λ cs. slice_get cs 0) lending.cells; roomy = lending.roomy }

pub returns-in-Rests : goal.returns-in-Rests
returns-in-Rests g c =
    let before = todo g.F.Fibers.count_of g.F.Fibers.refused c.args.limits.now.steps c.loop-next.board c.loop-next.fiber in
    let rests = subst (λ n. NextIs g.F.Fibers.task_of g.F.Fibers.course_of g.F.Fibers.holds (IsOf g.F.Fibers.serves c.args.code.now c.args.main c.args.limits.now) c.advance.new.board c.advance.new.fiber n) c.in-Rests.is c.in-Ok.ensures.next in
    let falls = (subst (λ n. Falls g.F.Fibers.count_of g.F.Fibers.refused c.args.limits.now.steps before c.advance.new.board c.advance.new.fiber n) c.in-Rests.is c.in-Ok.ensures.falls) (seen c.give_back.new.self) c.give_back.ensures.effect in
    let less : left g.F.Fibers.count_of c.args.limits.now.steps (seen c.give_back.new.self) ≤ before = falls.1 in
    let most : before ≤ todo g.F.Fibers.count_of g.F.Fibers.refused c.args.limits.now.steps c.args.board.now c.args.fiber = c.loop-next.invariant.3 in
    record {
      rest = given g.F.Fibers.task_of g.F.Fibers.course_of g.F.Fibers.holds (IsOf g.F.Fibers.serves c.args.code.now c.args.main c.args.limits.now) c.advance.new.board c.give_back.new.self c.advance.new.fiber c.in-Rests.waits rests.0 rests.1 c.give_back.ensures.effect c.give_back.ensures.roomy (λ set. c.give_back.ensures.stands set);
      falls = (falls.0, omega (arith, less, most));
      grows = gives_grew (g.F.Fibers.task_of c.args.fiber) c.args.board.now.journal.items (seen c.advance.new.board) (seen c.give_back.new.self) 0 c.advance.new.fiber c.in-Rests.waits (grew_more (g.F.Fibers.task_of c.args.fiber) c.args.board.now.journal.items c.loop-next.board.journal.items c.advance.new.board.journal.items c.loop-next.invariant.5 (subst (λ (k : ℕ). Grew k c.loop-next.board.journal.items c.advance.new.board.journal.items) c.loop-next.invariant.4 (next_grew (g.F.Fibers.task_of c.loop-next.fiber) c.loop-next.board.journal.items c.advance.new.board.journal.items (g.F.Fibers.refused c.advance.new.fiber) c.in-Ok.next c.in-Ok.ensures.made))) c.give_back.ensures.effect;
    }
