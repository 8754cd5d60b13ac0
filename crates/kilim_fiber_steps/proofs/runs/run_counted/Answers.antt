use Rattle.std.proofs.Common.{◌≡◌, ◌∙◌, ◌+◌, ◌-◌, refl, sym, ap, Bool, not, arith}
use Rattle.std.specs.Prelude.{◌&&◌}
use Rattle.kilim_run_state.specs.frames.Calls.{activation, calls_of}
use Rattle.kilim_run_machine.specs.Moves.{effect_of}
use Rattle.kilim_fiber_spec.specs.Fibers.{is_rewinding}
use Rattle.kilim_fiber_steps.specs.Counted.{AtFirst}
use Rattle.kilim_fiber_steps.specs.Woven as woven
use Rattle.kilim_fiber_steps.proofs.Counting.{can_go_on, further, halts, has_spent, has_stopped, no_more}
use Rattle.kilim_fiber_steps.proofs.Woven.{counted_safe, fiber_behind, fiber_safe, ran_on}
use Rattle.kilim_fiber_steps.proofs.runs.run_counted.Goals as goal

pub steps-init : goal.steps-init
steps-init c = record { runs = woven.AtFirst (omega arith) refl refl refl; roomy = c.requires.roomy; few = omega arith }

pub run_frame-requires-clause-safe : goal.run_frame-requires-clause-safe
run_frame-requires-clause-safe c =
    let few = c.steps.invariant.few in
    fiber_safe c.args.program.now c.args.counted.now c.args.limit c.steps.left (calls_of c.args.frames.now) c.args.heap.now c.args.records.now (c.args.limit - c.steps.left) (calls_of c.steps.frames) c.steps.heap c.steps.records (omega (arith, few)) c.requires.safe c.steps.invariant.runs

pub returns-in-Stops-clause-run : goal.returns-in-Stops-clause-run
returns-in-Stops-clause-run c =
    let leg = c.in-Ok.ensures.leg in
    let most = leg.leg.few in
    let all = leg.all in
    let few = c.steps.invariant.few in
    let so_far = fiber_behind c.args.program.now c.args.counted.now c.args.limit c.steps.left (calls_of c.args.frames.now) c.args.heap.now c.args.records.now (c.args.limit - c.steps.left) (calls_of c.steps.frames) c.steps.heap c.steps.records (omega (arith, few)) c.steps.invariant.runs leg.done leg.calls leg.heap c.run_frame.new.records leg.runs in
    let whole : (c.args.limit - c.steps.left + leg.done) + leg.rest ≡ c.args.limit = omega (arith, all, few) in
    record {
      done = c.args.limit - c.steps.left + leg.done;
      left = leg.rest;
      rest = leg.rest - c.in-Ok.leg.left;
      calls = leg.calls;
      heap = leg.heap;
      runs = so_far;
      all = whole;
      sum = omega (arith, all, few, most);
      is = has_stopped c.args.program.now c.args.counted.now (not (is_rewinding c.run_frame.new.records)) c.in-Some.own.now leg.rest leg.rest c.in-Ok.leg.left c.in-Ok.leg.fuel leg.calls leg.calls leg.heap leg.heap c.run_frame.new.frames c.run_frame.new.heap (AtFirst (omega arith) refl refl) (omega arith) most (rw c.in-Stops.is at leg.leg.is);
    }

pub returns-in-Spent-clause-run : goal.returns-in-Spent-clause-run
returns-in-Spent-clause-run c =
    let leg = c.in-Ok.ensures.leg in
    let most = leg.leg.few in
    let all = leg.all in
    let few = c.steps.invariant.few in
    let so_far = fiber_behind c.args.program.now c.args.counted.now c.args.limit c.steps.left (calls_of c.args.frames.now) c.args.heap.now c.args.records.now (c.args.limit - c.steps.left) (calls_of c.steps.frames) c.steps.heap c.steps.records (omega (arith, few)) c.steps.invariant.runs leg.done leg.calls leg.heap c.run_frame.new.records leg.runs in
    let whole : (c.args.limit - c.steps.left + leg.done) + leg.rest ≡ c.args.limit = omega (arith, all, few) in
    record {
      done = c.args.limit - c.steps.left + leg.done;
      left = leg.rest;
      rest = leg.rest - c.in-Ok.leg.left;
      calls = leg.calls;
      heap = leg.heap;
      runs = so_far;
      all = whole;
      sum = omega (arith, all, few, most);
      is = has_spent c.args.program.now c.args.counted.now (not (is_rewinding c.run_frame.new.records)) c.in-Some.own.now leg.rest leg.rest c.in-Ok.leg.left c.in-Ok.leg.fuel leg.calls leg.calls leg.heap leg.heap c.run_frame.new.frames c.run_frame.new.heap (AtFirst (omega arith) refl refl) (omega arith) most (rw c.in-Spent.is at leg.leg.is);
    }

pub go_on-requires-clause-can : goal.go_on-requires-clause-can
go_on-requires-clause-can c =
    let leg = c.in-Ok.ensures.leg in
    let most = leg.leg.few in
    let all = leg.all in
    let few = c.steps.invariant.few in
    let so_far = fiber_behind c.args.program.now c.args.counted.now c.args.limit c.steps.left (calls_of c.args.frames.now) c.args.heap.now c.args.records.now (c.args.limit - c.steps.left) (calls_of c.steps.frames) c.steps.heap c.steps.records (omega (arith, few)) c.steps.invariant.runs leg.done leg.calls leg.heap c.run_frame.new.records leg.runs in
    let whole : (c.args.limit - c.steps.left + leg.done) + leg.rest ≡ c.args.limit = omega (arith, all, few) in
    let told = rw c.in-Leaves.is at leg.leg.is in
    let rest = told.1 in
    let safe = counted_safe c.args.program.now c.args.counted.now c.args.limit leg.rest (calls_of c.args.frames.now) c.args.heap.now c.args.records.now (c.args.limit - c.steps.left + leg.done) leg.calls leg.heap c.run_frame.new.records whole c.requires.safe so_far in
    can_go_on c.args.program.now c.args.counted.now (not (is_rewinding c.run_frame.new.records)) c.in-Some.own.now leg.rest leg.rest c.in-Ok.leg.left c.in-Ok.leg.fuel leg.calls leg.calls leg.heap leg.heap c.run_frame.new.frames c.run_frame.new.heap (AtFirst (omega arith) refl refl) (omega arith) most c.in-Leaves.mark c.in-Leaves.moved c.in-Leaves.next rest safe

pub returns-in-Some-halted-clause-run : goal.returns-in-Some-halted-clause-run
returns-in-Some-halted-clause-run c =
    let leg = c.in-Ok.ensures.leg in
    let most = leg.leg.few in
    let all = leg.all in
    let few = c.steps.invariant.few in
    let so_far = fiber_behind c.args.program.now c.args.counted.now c.args.limit c.steps.left (calls_of c.args.frames.now) c.args.heap.now c.args.records.now (c.args.limit - c.steps.left) (calls_of c.steps.frames) c.steps.heap c.steps.records (omega (arith, few)) c.steps.invariant.runs leg.done leg.calls leg.heap c.run_frame.new.records leg.runs in
    let whole : (c.args.limit - c.steps.left + leg.done) + leg.rest ≡ c.args.limit = omega (arith, all, few) in
    let told = rw c.in-Leaves.is at leg.leg.is in
    let rest = told.1 in
    let settles = c.in-Ok-go_on.ensures.settles (effect_of c.args.program.now (activation rest.before) rest.heap) rest.before rest.heap rest.shows rest.same in
    record {
      done = c.args.limit - c.steps.left + leg.done;
      left = leg.rest;
      rest = leg.rest - c.in-Ok.leg.left;
      calls = leg.calls;
      heap = leg.heap;
      runs = so_far;
      all = whole;
      sum = omega (arith, all, few, most);
      is = halts c.args.program.now c.args.counted.now (not (is_rewinding c.run_frame.new.records)) c.in-Some.own.now leg.rest leg.rest c.in-Ok.leg.left c.in-Ok.leg.fuel leg.calls leg.calls leg.heap leg.heap c.run_frame.new.frames c.run_frame.new.heap (AtFirst (omega arith) refl refl) (omega arith) most c.in-Leaves.mark c.in-Leaves.moved c.in-Leaves.next rest c.go_on.new.frames c.go_on.new.heap c.in-Some-halted.halted (rw c.in-Some-halted.is at settles);
    }

pub less_if-left-requires : goal.less_if-left-requires
less_if-left-requires c =
    let leg = c.in-Ok.ensures.leg in
    let told = rw c.in-Leaves.is at leg.leg.is in
    let rest = told.1 in
    let by : c.counts_by.result ≡ (c.in-Leaves.mark && (not (is_rewinding c.run_frame.new.records))) = c.counts_by.ensures ∙ ap (λ (b : Bool). c.in-Leaves.mark && b) c.is_live-live.ensures in
    λ counts. rest.some (sym by ∙ counts)

pub steps-preserved : goal.steps-preserved
steps-preserved c =
    let leg = c.in-Ok.ensures.leg in
    let most = leg.leg.few in
    let all = leg.all in
    let few = c.steps.invariant.few in
    let so_far = fiber_behind c.args.program.now c.args.counted.now c.args.limit c.steps.left (calls_of c.args.frames.now) c.args.heap.now c.args.records.now (c.args.limit - c.steps.left) (calls_of c.steps.frames) c.steps.heap c.steps.records (omega (arith, few)) c.steps.invariant.runs leg.done leg.calls leg.heap c.run_frame.new.records leg.runs in
    let whole : (c.args.limit - c.steps.left + leg.done) + leg.rest ≡ c.args.limit = omega (arith, all, few) in
    let told = rw c.in-Leaves.is at leg.leg.is in
    let rest = told.1 in
    let settles = c.in-Ok-go_on.ensures.settles (effect_of c.args.program.now (activation rest.before) rest.heap) rest.before rest.heap rest.shows rest.same in
    let by : c.counts_by.result ≡ (c.in-Leaves.mark && (not (is_rewinding c.run_frame.new.records))) = c.counts_by.ensures ∙ ap (λ (b : Bool). c.in-Leaves.mark && b) c.is_live-live.ensures in
    let fewer = no_more c.counts_by.result c.in-Ok.leg.left c.less_if-left.result c.less_if-left.ensures in
    let on = further c.args.program.now c.args.counted.now (not (is_rewinding c.run_frame.new.records)) c.in-Some.own.now leg.rest leg.rest c.in-Ok.leg.left c.in-Ok.leg.fuel leg.calls leg.calls leg.heap leg.heap c.run_frame.new.frames c.run_frame.new.heap (AtFirst (omega arith) refl refl) (omega arith) most c.in-Leaves.mark c.in-Leaves.moved c.in-Leaves.next rest c.go_on.new.frames c.go_on.new.heap c.counts_by.result c.less_if-left.result by c.less_if-left.ensures (rw c.in-None.is at settles) in
    record {
      runs = ran_on c.args.program.now c.args.counted.now c.args.limit leg.rest (calls_of c.args.frames.now) c.args.heap.now c.args.records.now (c.args.limit - c.steps.left + leg.done) leg.calls leg.heap c.run_frame.new.records whole c.requires.safe so_far (c.args.limit - c.less_if-left.result) c.less_if-left.result (calls_of c.go_on.new.frames) c.go_on.new.heap on (omega (arith, fewer, most)) refl;
      roomy = c.in-Ok-go_on.ensures.roomy;
      few = omega (arith, fewer, most, all, few);
    }

pub steps-preserved-in-On : goal.steps-preserved-in-On
steps-preserved-in-On c =
    let leg = c.in-Ok.ensures.leg in
    let most = leg.leg.few in
    let all = leg.all in
    let few = c.steps.invariant.few in
    let so_far = fiber_behind c.args.program.now c.args.counted.now c.args.limit c.steps.left (calls_of c.args.frames.now) c.args.heap.now c.args.records.now (c.args.limit - c.steps.left) (calls_of c.steps.frames) c.steps.heap c.steps.records (omega (arith, few)) c.steps.invariant.runs leg.done leg.calls leg.heap c.run_frame.new.records leg.runs in
    let whole : (c.args.limit - c.steps.left + leg.done) + leg.rest ≡ c.args.limit = omega (arith, all, few) in
    let told = rw c.in-On.is at leg.leg.is in
    record {
      runs = ran_on c.args.program.now c.args.counted.now c.args.limit leg.rest (calls_of c.args.frames.now) c.args.heap.now c.args.records.now (c.args.limit - c.steps.left + leg.done) leg.calls leg.heap c.run_frame.new.records whole c.requires.safe so_far (c.args.limit - c.in-Ok.leg.left) c.in-Ok.leg.left (calls_of c.run_frame.new.frames) c.run_frame.new.heap told.1 most refl;
      roomy = c.in-Ok.ensures.roomy;
      few = omega (arith, most, all, few);
    }
