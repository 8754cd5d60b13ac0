use Rattle.std.proofs.Common.{◌≡◌, ◌<◌, ◌∙◌, ap, sym, refl, arith}
use Rattle.std.specs.Prelude.{option_copied}
use Rattle.kilim_run_machine.specs.Moves.{effect_of}
use Rattle.kilim_run_state.specs.frames.Calls.{activation, below_of, calls_of}
use Rattle.kilim_replay_thread.specs.Thread.{AtFirst}
use Rattle.kilim_replay_thread.proofs.Steps.{fine_here, further, goes_further, halts, no_method}
use Rattle.kilim_replay_thread.proofs.runs.run_thread.Goals as goal

pub steps-init : goal.steps-init
steps-init c = record { runs = AtFirst (omega arith) refl refl refl; roomy = c.requires.roomy; few = omega arith }

pub unreachable-requires : goal.unreachable-requires
unreachable-requires c =
    let some : 0 < c.steps.left = omega (arith, c.steps-test.true) in
    no_method c.args.program.now (activation c.steps.frames.top) (below_of c.steps.frames) c.steps.heap
    (fine_here c.args.program.now c.args.limit c.steps.left (calls_of c.args.frames.now) c.args.heap.now c.args.next.now c.steps.frames c.steps.heap c.steps.next c.steps.invariant.runs c.steps.invariant.few some c.requires.safe)
    (sym c.method_at.ensures ∙ ap option_copied c.in_default.is)

pub steps-preserved-in-Goes : goal.steps-preserved-in-Goes
steps-preserved-in-Goes c =
    let some : 0 < c.steps.left = omega (arith, c.steps-test.true) in
    record {
      runs = further c.args.program.now c.args.limit c.steps.left (calls_of c.args.frames.now) c.args.heap.now c.args.next.now c.steps.frames c.steps.heap c.steps.next c.steps.invariant.runs c.steps.invariant.few some
          (calls_of c.do_one.new.frames) c.do_one.new.heap c.do_one.new.next (rw c.in-Goes.is at c.do_one.ensures.does);
      roomy = c.do_one.ensures.roomy;
      few = omega (arith, c.steps.invariant.few);
    }

pub go_on-requires-clause-plain : goal.go_on-requires-clause-plain
go_on-requires-clause-plain c = let told = rw c.in-Leaves.is at c.do_one.ensures.does in told.0.plain

pub go_on-requires-clause-shown : goal.go_on-requires-clause-shown
go_on-requires-clause-shown c =
    let told = rw c.in-Leaves.is at c.do_one.ensures.does in
    record { effect = effect_of c.args.program.now (activation c.steps.frames.top) c.steps.heap; before = c.steps.frames.top; heap = c.steps.heap; after = c.do_one.new.heap; shows = told.0.shows; same = told.0.same }

pub returns-in-Some-halted-clause-run : goal.returns-in-Some-halted-clause-run
returns-in-Some-halted-clause-run c =
    let some : 0 < c.steps.left = omega (arith, c.steps-test.true) in
    let told = rw c.in-Leaves.is at c.do_one.ensures.does in
    let is = told.0 in
    let settles = c.in-Ok.ensures.settles (effect_of c.args.program.now (activation c.steps.frames.top) c.steps.heap) c.steps.frames.top c.steps.heap c.do_one.new.heap is.shows is.same in
    halts c.args.program.now c.args.limit c.steps.left (calls_of c.args.frames.now) c.args.heap.now c.args.next.now c.steps.frames c.steps.heap c.steps.next c.steps.invariant.runs c.steps.invariant.few some
    c.in-Some.own.now c.in-Leaves.moved c.in-Leaves.behind c.do_one.new.frames c.do_one.new.heap is c.in-Some-halted.halted c.go_on.new.frames c.do_one.new.next told.1 (rw c.in-Some-halted.is at settles)

pub steps-preserved : goal.steps-preserved
steps-preserved c =
    let some : 0 < c.steps.left = omega (arith, c.steps-test.true) in
    let told = rw c.in-Leaves.is at c.do_one.ensures.does in
    let is = told.0 in
    let settles = c.in-Ok.ensures.settles (effect_of c.args.program.now (activation c.steps.frames.top) c.steps.heap) c.steps.frames.top c.steps.heap c.do_one.new.heap is.shows is.same in
    record {
      runs = goes_further c.args.program.now c.args.limit c.steps.left (calls_of c.args.frames.now) c.args.heap.now c.args.next.now c.steps.frames c.steps.heap c.steps.next c.steps.invariant.runs c.steps.invariant.few some
          c.in-Some.own.now c.in-Leaves.moved c.in-Leaves.behind c.do_one.new.frames c.do_one.new.heap is c.go_on.new.frames c.do_one.new.next told.1 (rw c.in-None.is at settles);
      roomy = c.in-Ok.ensures.roomy;
      few = omega (arith, c.steps.invariant.few);
    }

pub returns-clause-run : goal.returns-clause-run
returns-clause-run c =
    let none : c.steps.left ≡ 0 = omega (arith, c.steps-test.false) in
    record {
      calls = calls_of c.steps.frames;
      heap = c.steps.heap;
      most = omega arith;
      runs = c.steps.invariant.runs;
      last = (omega (arith, none), refl, refl);
    }
