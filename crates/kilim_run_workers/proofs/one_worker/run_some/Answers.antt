use Rattle.std.proofs.Common.{inl, inr, ◌<◌, ◌≡◌, ◌∙◌, length, arith, ℕ}
use Rattle.kilim_run_model.specs.Moving.{MovedReplay}
use Rattle.kilim_run_board.proofs.Boards.{quiet_at_rest}
use Rattle.kilim_run_workers.proofs.Given.{grew_ends, lend_same, none_or_ends}
use Rattle.std.proofs.Common.{ap, subst, sym}
use Rattle.std.specs.List.{AllByRecursion}
use Rattle.std.specs.Prelude.{slice_get}
use Rattle.kilim_run_board.specs.Seen.{seen}
use Rattle.kilim_run_workers.specs.one_worker.Pool.{IsCalmFiber, IsCalmWaiter, IsOf, left}
use Rattle.kilim_run_workers.proofs.one_worker.Lent.{lent_calm, lent_falls, lent_waits}
use Rattle.kilim_run_workers.proofs.one_worker.Steps.{lending, quiet_now}
use Rattle.kilim_run_workers.proofs.one_worker.run_some.Goals as goal

pub run_fiber-requires-clause-lending : goal.run_fiber-requires-clause-lending
run_fiber-requires-clause-lending g c = lending g.F.Fibers.task_of g.F.Fibers.course_of g.F.Fibers.holds (IsOf g.F.Fibers.serves c.args.code.now c.args.main c.args.limits.now) c.loop-main.board c.lend.new.self c.in-Fiber.fiber c.loop-main.invariant.0 c.in-Fiber.ensures.roomy c.in-Fiber.ensures.effect c.in-Fiber.ensures.stands

pub boot-requires : goal.boot-requires
boot-requires g c = (c.requires.some.0, c.requires.some.1.run)

pub lend-requires : goal.lend-requires
lend-requires g c = record { free = ap (λ cs. slice_get cs 0) c.loop-main.invariant.0.cells; roomy = c.loop-main.invariant.0.roomy }

pub run_fiber-requires-clause-calm : goal.run_fiber-requires-clause-calm
run_fiber-requires-clause-calm g c = (lent_calm g.F.Fibers.refused g.F.Fibers.task_of 0 c.in-Fiber.fiber (seen c.loop-main.board) (seen c.lend.new.self) c.in-Fiber.ensures.effect.1 c.loop-main.invariant.1).0

pub run_fiber-requires-clause-waits : goal.run_fiber-requires-clause-waits
run_fiber-requires-clause-waits g c =
    lent_waits g.F.Fibers.refused g.F.Fibers.task_of 0 c.in-Fiber.fiber c.lend.new.self
    (lent_calm g.F.Fibers.refused g.F.Fibers.task_of 0 c.in-Fiber.fiber (seen c.loop-main.board) (seen c.lend.new.self) c.in-Fiber.ensures.effect.1 c.loop-main.invariant.1).1

pub loop-main-init : goal.loop-main-init
loop-main-init g c =
    let new = c.in-Ok-new.ensures.board in (
      record { roomy = c.in-Ok-new.ensures.roomy; cells = new.cells; running = new.stopped; stands = λ set is. c.in-Ok-new.ensures.stands set c.in-Ok.ensures.task c.in-Ok.ensures.course (c.in-Ok.ensures.stands set is.run) },
      record {
        ready = subst (λ fs. AllByRecursion (IsCalmFiber g.F.Fibers.refused) fs) (sym new.ready) (c.in-Ok.ensures.refused, tt);
        parked = subst (λ ws. AllByRecursion (IsCalmWaiter g.F.Fibers.refused) ws) (sym new.parked) tt;
      },
      inl new.journal,
    )

pub loop-main-smaller : goal.loop-main-smaller
loop-main-smaller g c = lent_falls g.F.Fibers.task_of g.F.Fibers.count_of g.F.Fibers.refused c.args.limits.now.steps c.loop-main.board c.lend.new.self c.in-Fiber.fiber (left g.F.Fibers.count_of c.args.limits.now.steps (seen c.run_fiber.new.board)) c.in-Fiber.ensures.effect.1 c.in-Ok-run_fiber.ensures.falls.1

pub loop-main-preserved : goal.loop-main-preserved
loop-main-preserved g c =
    let same = c.in-Fiber.ensures.effect.1.run.journal in
    let few : length c.lend.new.self.journal.items < c.args.entries =
    let lens : length c.lend.new.self.journal.items ≡ length c.loop-main.board.journal.items = ap length same in
    grind (arith, lens, c.if-len-entries.false, c.len.ensures) in (
      c.in-Ok-run_fiber.ensures.rest,
      c.in-Ok-run_fiber.ensures.falls.0,
      inr (grew_ends (g.F.Fibers.task_of c.in-Fiber.fiber) c.args.entries c.lend.new.self.journal.items c.run_fiber.new.board.journal.items c.in-Ok-run_fiber.ensures.grows few),
    )

pub returns-in_default-lend : goal.returns-in_default-lend
returns-in_default-lend g c =
    let same = lend_same g.F.Fibers.task_of (seen c.loop-main.board) (seen c.lend.new.self) 0 c.lend.result c.lend.ensures.effect in
    let q = quiet_now g.F.Fibers.task_of g.F.Fibers.course_of g.F.Fibers.holds (IsOf g.F.Fibers.serves c.args.code.now c.args.main c.args.limits.now) c.loop-main.board c.lend.new.self c.lend.result c.in_default-lend.not-Fiber c.lend.ensures.effect c.loop-main.invariant.0 in
    record {
      moved = λ set is.
          let s = (c.lend.ensures.stands set (c.loop-main.invariant.0.stands set is)).0 in
          (s.state, subst (λ js. MovedReplay set js s.state) (sym c.into_entries-in_default-lend.ensures) s.replay, inr (_, quiet_at_rest g.F.Fibers.task_of g.F.Fibers.course_of g.F.Fibers.holds set (seen c.lend.new.self) s q.0 q.1.0 q.1.1));
      last = none_or_ends c.args.entries c.loop-main.board.journal.items c.into_entries-in_default-lend.result.items (c.into_entries-in_default-lend.ensures ∙ same) c.loop-main.invariant.2;
    }
