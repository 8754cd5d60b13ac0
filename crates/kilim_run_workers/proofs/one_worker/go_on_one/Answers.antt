use Rattle.std.proofs.Common.{◌≡◌, ◌++◌}
use Rattle.kilim_run_board.specs.Board.{closing}
use Rattle.kilim_run_workers.specs.Given.{BeginsWith}
use Rattle.std.proofs.Common.{refl}
use Rattle.kilim_run_workers.proofs.Given.{all_begin, grew_begins, if_ok_map, lend_continues, more_begins, same_begins}
use Rattle.std.proofs.Common.{ap, subst, sym}
use Rattle.std.specs.List.{AllByRecursion}
use Rattle.std.specs.Prelude.{slice_get}
use Rattle.kilim_run_board.specs.Seen.{seen}
use Rattle.kilim_run_workers.specs.one_worker.Pool.{IsCalmFiber, IsCalmWaiter, IsOf, left}
use Rattle.kilim_run_workers.proofs.one_worker.Lent.{lent_calm, lent_falls, lent_waits}
use Rattle.kilim_run_workers.proofs.one_worker.Steps.{lending, quiet_now}
use Rattle.kilim_run_workers.proofs.one_worker.go_on_one.Goals as goal

pub run_fiber-requires-clause-lending : goal.run_fiber-requires-clause-lending
run_fiber-requires-clause-lending g c = lending g.F.Fibers.task_of g.F.Fibers.course_of g.F.Fibers.holds (IsOf g.F.Fibers.serves c.args.code.now c.args.main c.args.limits.now) c.loop-fiber.board c.lend.new.self c.in-Fiber.fiber c.loop-fiber.invariant.0 c.in-Fiber.ensures.roomy c.in-Fiber.ensures.effect c.in-Fiber.ensures.stands

pub returns-in_default : goal.returns-in_default
returns-in_default g c =
    let q = quiet_now g.F.Fibers.task_of g.F.Fibers.course_of g.F.Fibers.holds (IsOf g.F.Fibers.serves c.args.code.now c.args.main c.args.limits.now) c.loop-fiber.board c.lend.new.self c.lend.result c.in_default.not-Fiber c.lend.ensures.effect c.loop-fiber.invariant.0 in
    record {
      whole = λ set is. c.finish.ensures.rest set (c.lend.ensures.stands set (c.loop-fiber.invariant.0.stands set is)).0 q.0 q.1;
      begins = if_ok_map c.finish.result (λ es. es.items ≡ c.lend.new.self.journal.items ++ closing g.F.Fibers.task_of c.lend.new.self.parked.items 0 c.lend.new.self.tasks) (λ es. BeginsWith c.args.board.journal.items es.items)
          (λ es e. more_begins c.args.board.journal.items c.lend.new.self.journal.items es.items _ e (lend_continues c.args.board.journal.items (seen c.loop-fiber.board) (seen c.lend.new.self) 0 c.loop-fiber.invariant.2 g.F.Fibers.task_of c.lend.result c.lend.ensures.effect)) c.finish.ensures.entries;
    }

pub lend-requires : goal.lend-requires
lend-requires g c = record { free = ap (λ cs. slice_get cs 0) c.loop-fiber.invariant.0.cells; roomy = c.loop-fiber.invariant.0.roomy }

pub run_fiber-requires-clause-calm : goal.run_fiber-requires-clause-calm
run_fiber-requires-clause-calm g c = (lent_calm g.F.Fibers.refused g.F.Fibers.task_of 0 c.in-Fiber.fiber (seen c.loop-fiber.board) (seen c.lend.new.self) c.in-Fiber.ensures.effect.1 c.loop-fiber.invariant.1).0

pub run_fiber-requires-clause-waits : goal.run_fiber-requires-clause-waits
run_fiber-requires-clause-waits g c =
    lent_waits g.F.Fibers.refused g.F.Fibers.task_of 0 c.in-Fiber.fiber c.lend.new.self
    (lent_calm g.F.Fibers.refused g.F.Fibers.task_of 0 c.in-Fiber.fiber (seen c.loop-fiber.board) (seen c.lend.new.self) c.in-Fiber.ensures.effect.1 c.loop-fiber.invariant.1).1

pub loop-fiber-init : goal.loop-fiber-init
loop-fiber-init g c = (c.requires.resting, c.requires.calm, same_begins c.args.board.journal.items c.args.board.journal.items c.args.board.journal.items refl (all_begin c.args.board.journal.items))

pub loop-fiber-smaller : goal.loop-fiber-smaller
loop-fiber-smaller g c = lent_falls g.F.Fibers.task_of g.F.Fibers.count_of g.F.Fibers.refused c.args.limits.now.steps c.loop-fiber.board c.lend.new.self c.in-Fiber.fiber (left g.F.Fibers.count_of c.args.limits.now.steps (seen c.run_fiber.new.board)) c.in-Fiber.ensures.effect.1 c.in-Ok.ensures.falls.1
