use Rattle.std.proofs.Common.{◌∙◌, sym, ap, subst, Bool, not, arith}
use Rattle.std.specs.Prelude.{◌&&◌}
use Rattle.kilim_program.specs.Names.{method_at}
use Rattle.kilim_run_state.specs.frames.Calls.{activation, below_of, calls_of}
use Rattle.kilim_fiber_spec.specs.Fibers.{is_rewinding, marks_of}
use Rattle.kilim_fiber_steps.specs.Legs.{Does}
use Rattle.kilim_fiber_steps.proofs.Counting.{fine_at, gone_on, leg_of, no_more}
use Rattle.kilim_fiber_steps.proofs.Marks.{mark_in}
use Rattle.kilim_fiber_steps.proofs.Woven.{counted_safe}
use Rattle.kilim_fiber_steps.proofs.runs.run_frame.Goals as goal

pub do_one-requires-clause-fine : goal.do_one-requires-clause-fine
do_one-requires-clause-fine c =
    let leg = c.in-Ok.ensures.leg in
    let live = c.is_live-live.ensures in
    let told = rw c.in-Far.is at leg.leg.is in
    let there = ap (method_at c.args.program.now) c.in-Ok.ensures.same ∙ c.requires.own in
    let are = ap (marks_of c.args.counted.now) c.in-Ok.ensures.same ∙ c.requires.marks in
    let safe = counted_safe c.args.program.now c.args.counted.now c.args.limit leg.rest (calls_of c.args.frames.now) c.args.heap.now c.args.records.now leg.done leg.calls leg.heap c.run_near.new.records leg.all c.requires.safe leg.runs in
    λ mark is some. fine_at c.args.program.now c.args.counted.now (not (is_rewinding c.run_near.new.records)) leg.rest c.in-Ok.leg.left mark leg.calls leg.heap (activation c.run_near.new.frames.top) (below_of c.run_near.new.frames) c.run_near.new.heap safe
    leg.leg.few (λ counts. some (ap (λ (b : Bool). mark && b) live ∙ counts)) told.1 (mark_in c.args.program.now c.args.counted.now c.run_near.new.frames.top.method c.args.own.now c.args.marks.now c.run_near.new.frames.top.pc mark there are is)

pub less_if-requires : goal.less_if-requires
less_if-requires c =
    let one : Does c.args.program.now c.args.own.now c.args.marks.now c.is_live-live.result c.in-Ok.leg.left c.run_near.new.frames c.run_near.new.heap c.do_one.result c.do_one.new.frames c.do_one.new.heap = c.do_one.ensures.does in
    let gone = rw c.in-Goes.is at one in
    λ counts. gone.some (sym gone.by ∙ counts)

pub returns-in-Goes-clause-leg : goal.returns-in-Goes-clause-leg
returns-in-Goes-clause-leg c =
    let leg = c.in-Ok.ensures.leg in
    let live = c.is_live-live.ensures in
    let told = rw c.in-Far.is at leg.leg.is in
    let there = ap (method_at c.args.program.now) c.in-Ok.ensures.same ∙ c.requires.own in
    let are = ap (marks_of c.args.counted.now) c.in-Ok.ensures.same ∙ c.requires.marks in
    let one : Does c.args.program.now c.args.own.now c.args.marks.now c.is_live-live.result c.in-Ok.leg.left c.run_near.new.frames c.run_near.new.heap c.do_one.result c.do_one.new.frames c.do_one.new.heap = c.do_one.ensures.does in
    let does = subst (λ (b : Bool). Does c.args.program.now c.args.own.now c.args.marks.now b c.in-Ok.leg.left c.run_near.new.frames c.run_near.new.heap c.do_one.result c.do_one.new.frames c.do_one.new.heap) live one in
    let gone = rw c.in-Goes.is at does in
    let fewer = no_more c.in-Goes.counts c.in-Ok.leg.left c.less_if.result c.less_if.ensures in
    let few = leg.leg.few in
    record {
      done = leg.done;
      rest = leg.rest;
      calls = leg.calls;
      heap = leg.heap;
      runs = leg.runs;
      all = leg.all;
      leg = record {
        few = omega (arith, fewer, few);
        less = leg.leg.less;
        is = (
          told.0,
          gone_on c.args.program.now c.args.counted.now (not (is_rewinding c.run_near.new.records)) c.args.own.now c.args.marks.now leg.rest c.in-Ok.leg.left c.less_if.result leg.calls leg.heap c.run_near.new.frames c.run_near.new.heap c.in-Goes.counts c.do_one.new.frames c.do_one.new.heap
              there are few told.1 gone c.less_if.ensures,
        );
      };
    }

pub returns-in-Halts-clause-leg : goal.returns-in-Halts-clause-leg
returns-in-Halts-clause-leg c =
    let leg = c.in-Ok.ensures.leg in
    let live = c.is_live-live.ensures in
    let told = rw c.in-Far.is at leg.leg.is in
    let there = ap (method_at c.args.program.now) c.in-Ok.ensures.same ∙ c.requires.own in
    let are = ap (marks_of c.args.counted.now) c.in-Ok.ensures.same ∙ c.requires.marks in
    let one : Does c.args.program.now c.args.own.now c.args.marks.now c.is_live-live.result c.in-Ok.leg.left c.run_near.new.frames c.run_near.new.heap c.do_one.result c.do_one.new.frames c.do_one.new.heap = c.do_one.ensures.does in
    let does = subst (λ (b : Bool). Does c.args.program.now c.args.own.now c.args.marks.now b c.in-Ok.leg.left c.run_near.new.frames c.run_near.new.heap c.do_one.result c.do_one.new.frames c.do_one.new.heap) live one in
    record {
      done = leg.done;
      rest = leg.rest;
      calls = leg.calls;
      heap = leg.heap;
      runs = leg.runs;
      all = leg.all;
      leg = record {
        few = leg.leg.few;
        less = leg.leg.less;
        is = leg_of c.args.program.now c.args.counted.now (not (is_rewinding c.run_near.new.records)) c.args.own.now c.args.marks.now leg.rest c.in-Ok.leg.left c.in-Ok.leg.fuel leg.calls leg.heap c.run_near.new.frames c.run_near.new.heap c.in-Halts.halt c.do_one.new.frames c.do_one.new.heap
            there are told.0 told.1 (rw c.in-Halts.is at does);
      };
    }
