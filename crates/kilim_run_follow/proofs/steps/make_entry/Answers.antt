use Rattle.std.proofs.Common.{◌∙◌, ap, subst, arith}
use Rattle.kilim_run_workers.specs.Given.{MadeBy, RestsWaiting}
use Rattle.kilim_run_workers.specs.declared.one_worker.Next.TheVariants as next
use Rattle.kilim_run_workers.specs.one_worker.Pool.{Falls, IsOf, NextIs, todo}
use Rattle.kilim_run_follow.proofs.Coming.{entry_came, made_back, none_came, waits_none}
use Rattle.kilim_run_follow.proofs.Going.{rests_on}
use Rattle.kilim_run_follow.proofs.steps.make_entry.Goals as goal

pub loop-next-smaller-in-None : goal.loop-next-smaller-in-None
loop-next-smaller-in-None g c =
    let before = todo g.F.Fibers.count_of g.F.Fibers.refused c.args.limits.now.steps c.loop-next.board c.loop-next.fiber in
    let falls = subst (λ n. Falls g.F.Fibers.count_of g.F.Fibers.refused c.args.limits.now.steps before c.advance.new.board c.advance.new.fiber n) (c.in-Rests.is ∙ ap next.Rests c.in-None.is) c.in-Ok.ensures.falls in
    (rests_on g.F.Fibers.task_of g.F.Fibers.count_of g.F.Fibers.refused c.args.limits.now.steps c.advance.new.board c.advance.new.fiber before falls).2

pub loop-next-preserved-in-None : goal.loop-next-preserved-in-None
loop-next-preserved-in-None g c =
    let before = todo g.F.Fibers.count_of g.F.Fibers.refused c.args.limits.now.steps c.loop-next.board c.loop-next.fiber in
    let falls = subst (λ n. Falls g.F.Fibers.count_of g.F.Fibers.refused c.args.limits.now.steps before c.advance.new.board c.advance.new.fiber n) (c.in-Rests.is ∙ ap next.Rests c.in-None.is) c.in-Ok.ensures.falls in
    let r = rests_on g.F.Fibers.task_of g.F.Fibers.count_of g.F.Fibers.refused c.args.limits.now.steps c.advance.new.board c.advance.new.fiber before falls in
    let lending = (subst (λ n. NextIs g.F.Fibers.task_of g.F.Fibers.course_of g.F.Fibers.holds (IsOf g.F.Fibers.serves c.args.code.now c.args.main c.args.limits.now) c.advance.new.board c.advance.new.fiber n) (c.in-Rests.is ∙ ap next.Rests c.in-None.is) c.in-Ok.ensures.next).0 in
    let same = subst (λ n. MadeBy (g.F.Fibers.task_of c.loop-next.fiber) c.loop-next.board.journal.items c.advance.new.board.journal.items (g.F.Fibers.refused c.advance.new.fiber) n) (c.in-Rests.is ∙ ap next.Rests c.in-None.is) c.in-Ok.ensures.made in
    (lending, r.0, r.1, c.in-Ok.ensures.alone c.loop-next.invariant.3, c.in-Ok.ensures.task ∙ c.loop-next.invariant.4, same ∙ c.loop-next.invariant.5)

pub returns-in-Some : goal.returns-in-Some
returns-in-Some g c =
    let rests = subst (λ n. NextIs g.F.Fibers.task_of g.F.Fibers.course_of g.F.Fibers.holds (IsOf g.F.Fibers.serves c.args.code.now c.args.main c.args.limits.now) c.advance.new.board c.advance.new.fiber n) (c.in-Rests.is ∙ ap next.Rests c.in-Some.is) c.in-Ok.ensures.next in
    let has = subst (λ n. RestsWaiting c.advance.new.board n) (c.in-Rests.is ∙ ap next.Rests c.in-Some.is) c.in-Ok.ensures.waiting in
    let same = subst (λ n. MadeBy (g.F.Fibers.task_of c.loop-next.fiber) c.loop-next.board.journal.items c.advance.new.board.journal.items (g.F.Fibers.refused c.advance.new.fiber) n) (c.in-Rests.is ∙ ap next.Rests c.in-Some.is) c.in-Ok.ensures.made in
    waits_none g.F.Fibers.task_of g.F.Fibers.course_of g.F.Fibers.holds g.F.Fibers.refused (IsOf g.F.Fibers.serves c.args.code.now c.args.main c.args.limits.now) c.args.board.now.journal.items (g.F.Fibers.task_of c.args.fiber) c.advance.new.board c.advance.new.fiber c.in-Some.field-0 rests.0 rests.1 has (c.in-Ok.ensures.task ∙ c.loop-next.invariant.4) (same ∙ c.loop-next.invariant.5)

pub returns-in-Ok-settle_at : goal.returns-in-Ok-settle_at
returns-in-Ok-settle_at g c =
    let before = todo g.F.Fibers.count_of g.F.Fibers.refused c.args.limits.now.steps c.loop-next.board c.loop-next.fiber in
    let falls = subst (λ n. Falls g.F.Fibers.count_of g.F.Fibers.refused c.args.limits.now.steps before c.advance.new.board c.advance.new.fiber n) c.in-On.is c.in-Ok.ensures.falls in
    let lending = subst (λ n. NextIs g.F.Fibers.task_of g.F.Fibers.course_of g.F.Fibers.holds (IsOf g.F.Fibers.serves c.args.code.now c.args.main c.args.limits.now) c.advance.new.board c.advance.new.fiber n) c.in-On.is c.in-Ok.ensures.next in
    let made = subst (λ n. MadeBy (g.F.Fibers.task_of c.loop-next.fiber) c.loop-next.board.journal.items c.advance.new.board.journal.items (g.F.Fibers.refused c.advance.new.fiber) n) c.in-On.is c.in-Ok.ensures.made in
    let one = entry_came (g.F.Fibers.task_of c.loop-next.fiber) c.args.board.now.journal.items c.loop-next.board.journal.items c.advance.new.board.journal.items (g.F.Fibers.refused c.advance.new.fiber) made c.loop-next.invariant.5 (omega (arith, c.if-len-before.true, c.len.ensures, c.len-before.ensures)) in
    made_back g.F.Fibers.task_of g.F.Fibers.course_of g.F.Fibers.holds g.F.Fibers.refused (IsOf g.F.Fibers.serves c.args.code.now c.args.main c.args.limits.now) c.args.board.now.journal.items (g.F.Fibers.task_of c.args.fiber) (g.F.Fibers.task_of c.loop-next.fiber) c.loop-next.board c.advance.new.board c.give_back.new.self c.settle_at.new.board c.advance.new.fiber lending falls.0 one.1 (c.in-Ok.ensures.alone c.loop-next.invariant.3) one.0 c.loop-next.invariant.4 c.loop-next.invariant.5
    c.give_back.ensures.effect c.give_back.ensures.roomy (λ set. c.give_back.ensures.stands set) c.in-Ok-settle_at.ensures.order c.in-Ok-settle_at.ensures.roomy

pub loop-next-preserved : goal.loop-next-preserved
loop-next-preserved g c =
    let before = todo g.F.Fibers.count_of g.F.Fibers.refused c.args.limits.now.steps c.loop-next.board c.loop-next.fiber in
    let falls = subst (λ n. Falls g.F.Fibers.count_of g.F.Fibers.refused c.args.limits.now.steps before c.advance.new.board c.advance.new.fiber n) c.in-On.is c.in-Ok.ensures.falls in
    let lending = subst (λ n. NextIs g.F.Fibers.task_of g.F.Fibers.course_of g.F.Fibers.holds (IsOf g.F.Fibers.serves c.args.code.now c.args.main c.args.limits.now) c.advance.new.board c.advance.new.fiber n) c.in-On.is c.in-Ok.ensures.next in
    let made = subst (λ n. MadeBy (g.F.Fibers.task_of c.loop-next.fiber) c.loop-next.board.journal.items c.advance.new.board.journal.items (g.F.Fibers.refused c.advance.new.fiber) n) c.in-On.is c.in-Ok.ensures.made in
    let same = none_came (g.F.Fibers.task_of c.loop-next.fiber) c.args.board.now.journal.items c.loop-next.board.journal.items c.advance.new.board.journal.items (g.F.Fibers.refused c.advance.new.fiber) made c.loop-next.invariant.5 (omega (arith, c.if-len-before.false, c.len.ensures, c.len-before.ensures)) in
    (lending, falls.0, falls.1, c.in-Ok.ensures.alone c.loop-next.invariant.3, c.in-Ok.ensures.task ∙ c.loop-next.invariant.4, same)
