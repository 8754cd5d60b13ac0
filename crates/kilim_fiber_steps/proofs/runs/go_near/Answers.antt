use Rattle.std.proofs.Common.{◌∙◌, refl, sym, ap, subst, ℕ, drop, arith}
use Rattle.kilim_program.specs.Lengths.{first_place}
use Rattle.kilim_program.specs.Names.{method_at}
use Rattle.kilim_run_state.specs.frames.Calls.{activation, below_of, calls_of}
use Rattle.kilim_fiber_spec.specs.Fibers.{marks_of}
use Rattle.kilim_fiber_steps.specs.Counted.{AtFirst}
use Rattle.kilim_fiber_steps.specs.Legs.{DoesNear, IsHalt, standing}
use Rattle.kilim_fiber_steps.proofs.Counting.{fine_at, gone_on, leg_of, no_more}
use Rattle.kilim_fiber_steps.proofs.Marks.{mark_in}
use Rattle.kilim_fiber_steps.proofs.runs.go_near.Goals as goal

pub loop-fuel-init : goal.loop-fuel-init
loop-fuel-init c = record {
  runs = AtFirst (omega arith) refl refl;
  roomy = c.requires.roomy;
  own = c.requires.own;
  marks = c.requires.marks;
  same = refl;
  within = c.requires.within;
  few = omega arith;
  less = omega arith;
}

pub do_near-requires-clause-fine : goal.do_near-requires-clause-fine
do_near-requires-clause-fine c =
    λ mark is some. fine_at c.args.program.now c.args.counted.now c.args.live c.args.limit c.loop-fuel.left mark (calls_of (standing c.args.own.now c.args.frames.now c.args.frame.now c.args.first)) c.args.heap.now
    (activation (standing c.args.own.now c.args.frames.now c.loop-fuel.frame c.loop-fuel.at).top) (below_of c.args.frames.now) c.loop-fuel.heap c.requires.safe c.loop-fuel.invariant.few some c.loop-fuel.invariant.runs
    (mark_in c.args.program.now c.args.counted.now c.loop-fuel.frame.method c.args.own.now c.args.marks.now (first_place (drop c.loop-fuel.at c.args.own.now.code) c.args.own.now.code_length) mark c.loop-fuel.invariant.own c.loop-fuel.invariant.marks is)

pub loop-fuel-preserved : goal.loop-fuel-preserved
loop-fuel-preserved c =
    let does : DoesNear c.args.program.now c.args.own.now c.args.marks.now c.args.live c.loop-fuel.left c.args.frames.now c.loop-fuel.frame c.loop-fuel.at c.loop-fuel.heap c.do_near.result c.do_near.new.frame c.do_near.new.at c.do_near.new.left c.do_near.new.heap = c.do_near.ensures.does in
    let told = rw c.in-Goes.is at does in
    let fewer = no_more told.counts c.loop-fuel.left c.do_near.new.left told.less in
    record {
      runs = gone_on c.args.program.now c.args.counted.now c.args.live c.args.own.now c.args.marks.now c.args.limit c.loop-fuel.left c.do_near.new.left (calls_of (standing c.args.own.now c.args.frames.now c.args.frame.now c.args.first)) c.args.heap.now (standing c.args.own.now c.args.frames.now c.loop-fuel.frame c.loop-fuel.at) c.loop-fuel.heap told.counts (standing c.args.own.now c.args.frames.now c.do_near.new.frame c.do_near.new.at) c.do_near.new.heap
          c.loop-fuel.invariant.own c.loop-fuel.invariant.marks c.loop-fuel.invariant.few c.loop-fuel.invariant.runs told.gone told.less;
      roomy = record { top = c.do_near.ensures.roomy.top; below = c.do_near.ensures.roomy.below };
      own = ap (method_at c.args.program.now) c.do_near.ensures.same ∙ c.loop-fuel.invariant.own;
      marks = ap (marks_of c.args.counted.now) c.do_near.ensures.same ∙ c.loop-fuel.invariant.marks;
      same = c.do_near.ensures.same ∙ c.loop-fuel.invariant.same;
      within = c.do_near.ensures.within;
      few = omega (arith, fewer, c.loop-fuel.invariant.few);
      less = omega (arith, c.loop-fuel.invariant.less);
    }

pub returns-in-Halts-clause-leg : goal.returns-in-Halts-clause-leg
returns-in-Halts-clause-leg c =
    let does : DoesNear c.args.program.now c.args.own.now c.args.marks.now c.args.live c.loop-fuel.left c.args.frames.now c.loop-fuel.frame c.loop-fuel.at c.loop-fuel.heap c.do_near.result c.do_near.new.frame c.do_near.new.at c.do_near.new.left c.do_near.new.heap = c.do_near.ensures.does in
    let told = rw c.in-Halts.is at does in
    let kept = told.kept in
    record {
      few = omega (arith, kept, c.loop-fuel.invariant.few);
      less = c.loop-fuel.invariant.less;
      is = subst (λ (q : ℕ). IsHalt c.args.program.now c.args.own.now c.args.counted.now c.args.live c.args.limit (calls_of (standing c.args.own.now c.args.frames.now c.args.frame.now c.args.first)) c.args.heap.now c.do_near.new.left c.loop-fuel.fuel c.in-Halts.halt (standing c.args.own.now c.args.frames.now c.do_near.new.frame q) c.do_near.new.heap) (sym told.same)
          (subst (λ (q : ℕ). IsHalt c.args.program.now c.args.own.now c.args.counted.now c.args.live c.args.limit (calls_of (standing c.args.own.now c.args.frames.now c.args.frame.now c.args.first)) c.args.heap.now q c.loop-fuel.fuel c.in-Halts.halt (standing c.args.own.now c.args.frames.now c.do_near.new.frame c.loop-fuel.at) c.do_near.new.heap) (sym kept)
          (leg_of c.args.program.now c.args.counted.now c.args.live c.args.own.now c.args.marks.now c.args.limit c.loop-fuel.left c.loop-fuel.fuel (calls_of (standing c.args.own.now c.args.frames.now c.args.frame.now c.args.first)) c.args.heap.now (standing c.args.own.now c.args.frames.now c.loop-fuel.frame c.loop-fuel.at) c.loop-fuel.heap c.in-Halts.halt (standing c.args.own.now c.args.frames.now c.do_near.new.frame c.loop-fuel.at) c.do_near.new.heap
          c.loop-fuel.invariant.own c.loop-fuel.invariant.marks (omega (arith, c.loop-fuel-test.true)) c.loop-fuel.invariant.runs told.is));
    }
