use Rattle.std.proofs.Common.{◌≡◌, ◌∙◌, ◌≤◌, ◌-◌, refl, sym, ap, subst, ℕ, Bool, List, drop, length, arith}
use Rattle.kilim_program.specs.declared.instr.Instr.{Instr}
use Rattle.kilim_program.specs.Lengths.{first_place}
use Rattle.kilim_program.specs.Names.{method_at}
use Rattle.kilim_run_state.specs.declared.frames.frame.Frame.{Frame}
use Rattle.kilim_run_state.specs.declared.frames.frames.Frames.{Frames}
use Rattle.kilim_run_state.specs.frames.Calls.{activation, below_of, calls_of}
use Rattle.kilim_run_interp.specs.Step.{stack_limit}
use Rattle.kilim_fiber_spec.specs.Fibers.{marks_of}
use Rattle.kilim_fiber_steps.specs.Counted.{CountedRunsTo, IsCountedSafe}
use Rattle.kilim_fiber_steps.specs.Legs.{IsCountedLeg, IsHalt, standing}
use Rattle.kilim_fiber_steps.specs.Woven.{AtFirst, CallsMember, CallsYield, IsCall}
use Rattle.kilim_fiber_steps.specs.records.natives.Natives.{member_meant}
use Rattle.kilim_fiber_steps.proofs.Counting.{fine_at, leg_of, no_more}
use Rattle.kilim_fiber_steps.proofs.Marks.{mark_in}
use Rattle.kilim_fiber_steps.proofs.Near.{begins, place_is, put_back_is}
use Rattle.kilim_fiber_steps.proofs.Woven.{counted_safe, done_method, done_roomy, lost_at_once, member_fits, member_on, ran_on, yield_args, yield_method, yield_on, yield_roomy}
use Rattle.kilim_fiber_steps.proofs.runs.run_near.Goals as goal

pub members-init : goal.members-init
members-init c =
    let value : c.replace-frame.result ≡ c.args.frames.now.top = c.replace-frame.ensures.value in
    let there = c.in-Some.ensures in
    let place = sym (place_is c.args.own.now c.as_slice-code.result.now c.in-Some.first c.args.frames.now.top.pc c.as_slice-code.ensures there.1) in
    let same : length c.as_slice-code.result.now ≡ length c.args.own.now.code = ap (λ (xs : List (ℕ × Instr)). length xs) c.as_slice-code.ensures in
    let less = there.0 in
    record {
      runs = AtFirst (omega arith) (ap (λ (f : Frame). calls_of (standing c.args.own.now (record c.args.frames.now { top = c.replace-frame.new.dest }) f c.in-Some.first)) value ∙ begins c.args.own.now c.args.frames.now c.replace-frame.new.dest c.in-Some.first place) refl refl;
      roomy = record { top = subst (λ (f : Frame). stack_limit c.args.program.now f.method ≤ f.stack.room) (sym value) c.requires.roomy.top; below = c.requires.roomy.below };
      own = ap (λ (f : Frame). method_at c.args.program.now f.method) value ∙ c.requires.own;
      marks = ap (λ (f : Frame). marks_of c.args.counted.now f.method) value ∙ c.requires.marks;
      same = ap (λ (f : Frame). f.method) value;
      within = omega (arith, same, less);
      few = omega arith;
      less = omega arith;
    }

pub go_near-gone-requires-clause-safe : goal.go_near-gone-requires-clause-safe
go_near-gone-requires-clause-safe c =
    subst (λ (b : Bool). IsCountedSafe c.args.program.now c.args.counted.now b c.members.left (calls_of (standing c.args.own.now c.members.frames c.members.frame c.members.at)) c.members.heap) (sym c.is_live-live.ensures)
    (counted_safe c.args.program.now c.args.counted.now c.args.limit c.members.left (calls_of c.args.frames.now) c.args.heap.now c.args.records.now (c.args.limit - c.members.left) (calls_of (standing c.args.own.now c.members.frames c.members.frame c.members.at)) c.members.heap c.members.records
    (omega (arith, c.members.invariant.few)) c.requires.safe c.members.invariant.runs)

pub call_near-requires-clause-fine : goal.call_near-requires-clause-fine
call_near-requires-clause-fine c =
    let first = calls_of (standing c.args.own.now c.members.frames c.members.frame c.members.at) in
    let told = rw c.in-Far.is at c.go_near-gone.ensures.leg.is in
    let safe = subst (λ (b : Bool). IsCountedSafe c.args.program.now c.args.counted.now b c.members.left (calls_of (standing c.args.own.now c.members.frames c.members.frame c.members.at)) c.members.heap) (sym c.is_live-live.ensures)
    (counted_safe c.args.program.now c.args.counted.now c.args.limit c.members.left (calls_of c.args.frames.now) c.args.heap.now c.args.records.now (c.args.limit - c.members.left) (calls_of (standing c.args.own.now c.members.frames c.members.frame c.members.at)) c.members.heap c.members.records
    (omega (arith, c.members.invariant.few)) c.requires.safe c.members.invariant.runs) in
    let there = ap (method_at c.args.program.now) c.go_near-gone.ensures.same ∙ c.members.invariant.own in
    let are = ap (marks_of c.args.counted.now) c.go_near-gone.ensures.same ∙ c.members.invariant.marks in
    λ mark is some. fine_at c.args.program.now c.args.counted.now c.is_live-live.result c.members.left c.go_near-gone.result.left mark first c.members.heap (activation (standing c.args.own.now c.members.frames c.go_near-gone.new.frame c.go_near-gone.result.at).top) (below_of c.members.frames) c.go_near-gone.new.heap safe
    c.go_near-gone.ensures.leg.few some told.1 (mark_in c.args.program.now c.args.counted.now c.go_near-gone.new.frame.method c.args.own.now c.args.marks.now (first_place (drop c.go_near-gone.result.at c.args.own.now.code) c.args.own.now.code_length) mark there are is)

pub returns-in-Halts-clause-leg : goal.returns-in-Halts-clause-leg
returns-in-Halts-clause-leg c =
    let place = place_is c.args.own.now c.as_slice-code.result.now c.go_near-gone.result.at c.place_at.result c.as_slice-code.ensures (sym c.place_at.ensures) in
    let stands = put_back_is c.args.own.now c.members.frames c.go_near-gone.new.frame c.go_near-gone.result.at c.place_at.result c.put_back.new.frames c.put_back.ensures place in
    let few = c.go_near-gone.ensures.leg.few in
    let less = c.go_near-gone.ensures.leg.less in
    let told = rw c.in-Far.is at c.go_near-gone.ensures.leg.is in
    let there = ap (method_at c.args.program.now) c.go_near-gone.ensures.same ∙ c.members.invariant.own in
    let are = ap (marks_of c.args.counted.now) c.go_near-gone.ensures.same ∙ c.members.invariant.marks in
    let call : IsCall c.args.program.now c.args.own.now c.args.marks.now c.is_live-live.result c.go_near-gone.result.left c.members.frames c.go_near-gone.new.frame c.go_near-gone.result.at c.go_near-gone.new.heap c.call_near.result = c.call_near.ensures in
    let is = leg_of c.args.program.now c.args.counted.now c.is_live-live.result c.args.own.now c.args.marks.now c.members.left c.go_near-gone.result.left c.go_near-gone.result.fuel (calls_of (standing c.args.own.now c.members.frames c.members.frame c.members.at)) c.members.heap (standing c.args.own.now c.members.frames c.go_near-gone.new.frame c.go_near-gone.result.at) c.go_near-gone.new.heap c.in-Halts.halt (standing c.args.own.now c.members.frames c.go_near-gone.new.frame c.go_near-gone.result.at) c.go_near-gone.new.heap
    there are told.0 told.1 (rw c.in-Halts.is at call) in
    let leg : IsCountedLeg c.args.program.now c.args.own.now c.args.counted.now c.is_live-live.result c.members.left c.args.most (calls_of (standing c.args.own.now c.members.frames c.members.frame c.members.at)) c.members.heap c.go_near-gone.result.left c.go_near-gone.result.fuel c.in-Halts.halt c.put_back.new.frames c.go_near-gone.new.heap =
    record {
      few = few;
      less = omega (arith, less, c.members.invariant.less);
      is = subst (λ (f : Frames). IsHalt c.args.program.now c.args.own.now c.args.counted.now c.is_live-live.result c.members.left (calls_of (standing c.args.own.now c.members.frames c.members.frame c.members.at)) c.members.heap c.go_near-gone.result.left c.go_near-gone.result.fuel c.in-Halts.halt f c.go_near-gone.new.heap) (sym stands) is;
    } in
    record {
      done = c.args.limit - c.members.left;
      rest = c.members.left;
      calls = (calls_of (standing c.args.own.now c.members.frames c.members.frame c.members.at));
      heap = c.members.heap;
      runs = c.members.invariant.runs;
      all = omega (arith, c.members.invariant.few);
      leg = subst (λ (b : Bool). IsCountedLeg c.args.program.now c.args.own.now c.args.counted.now b c.members.left c.args.most (calls_of (standing c.args.own.now c.members.frames c.members.frame c.members.at)) c.members.heap c.go_near-gone.result.left c.go_near-gone.result.fuel c.in-Halts.halt c.put_back.new.frames c.go_near-gone.new.heap) c.is_live-live.ensures leg;
    }

pub returns-in_default-halt-clause-leg : goal.returns-in_default-halt-clause-leg
returns-in_default-halt-clause-leg c =
    let place = place_is c.args.own.now c.as_slice-code.result.now c.go_near-gone.result.at c.place_at-in_default-halt.result c.as_slice-code.ensures (sym c.place_at-in_default-halt.ensures) in
    let stands = put_back_is c.args.own.now c.members.frames c.go_near-gone.new.frame c.go_near-gone.result.at c.place_at-in_default-halt.result c.put_back-in_default-halt.new.frames c.put_back-in_default-halt.ensures place in
    let few = c.go_near-gone.ensures.leg.few in
    let less = c.go_near-gone.ensures.leg.less in
    let is = c.go_near-gone.ensures.leg.is in
    let leg : IsCountedLeg c.args.program.now c.args.own.now c.args.counted.now c.is_live-live.result c.members.left c.args.most (calls_of (standing c.args.own.now c.members.frames c.members.frame c.members.at)) c.members.heap c.go_near-gone.result.left c.go_near-gone.result.fuel c.go_near-gone.result.halt c.put_back-in_default-halt.new.frames c.go_near-gone.new.heap =
    record {
      few = few;
      less = omega (arith, less, c.members.invariant.less);
      is = subst (λ (f : Frames). IsHalt c.args.program.now c.args.own.now c.args.counted.now c.is_live-live.result c.members.left (calls_of (standing c.args.own.now c.members.frames c.members.frame c.members.at)) c.members.heap c.go_near-gone.result.left c.go_near-gone.result.fuel c.go_near-gone.result.halt f c.go_near-gone.new.heap) (sym stands) is;
    } in
    record {
      done = c.args.limit - c.members.left;
      rest = c.members.left;
      calls = (calls_of (standing c.args.own.now c.members.frames c.members.frame c.members.at));
      heap = c.members.heap;
      runs = c.members.invariant.runs;
      all = omega (arith, c.members.invariant.few);
      leg = subst (λ (b : Bool). IsCountedLeg c.args.program.now c.args.own.now c.args.counted.now b c.members.left c.args.most (calls_of (standing c.args.own.now c.members.frames c.members.frame c.members.at)) c.members.heap c.go_near-gone.result.left c.go_near-gone.result.fuel c.go_near-gone.result.halt c.put_back-in_default-halt.new.frames c.go_near-gone.new.heap) c.is_live-live.ensures leg;
    }

pub do_member-requires : goal.do_member-requires
do_member-requires c =
    let told = rw c.in-Far.is at c.go_near-gone.ensures.leg.is in
    let there = ap (method_at c.args.program.now) c.go_near-gone.ensures.same ∙ c.members.invariant.own in
    let are = ap (marks_of c.args.counted.now) c.go_near-gone.ensures.same ∙ c.members.invariant.marks in
    let few = c.go_near-gone.ensures.leg.few in
    let call : IsCall c.args.program.now c.args.own.now c.args.marks.now c.is_live-live.result c.go_near-gone.result.left c.members.frames c.go_near-gone.new.frame c.go_near-gone.result.at c.go_near-gone.new.heap c.call_near.result = c.call_near.ensures in
    let member = subst (λ (b : Bool). CallsMember c.args.program.now c.args.own.now c.args.marks.now b c.go_near-gone.result.left c.members.frames c.go_near-gone.new.frame c.go_near-gone.result.at c.go_near-gone.new.heap c.in-Member.member c.in-Member.count c.in-Member.behind) c.is_live-live.ensures (rw c.in-Member.is at call) in
    let steps = subst (λ (b : Bool). CountedRunsTo c.args.program.now c.args.counted.now b (calls_of (standing c.args.own.now c.members.frames c.members.frame c.members.at)) c.members.heap (c.members.left - c.go_near-gone.result.left) (calls_of (standing c.args.own.now c.members.frames c.go_near-gone.new.frame c.go_near-gone.result.at)) c.go_near-gone.new.heap) c.is_live-live.ensures told.1 in
    let runs = ran_on c.args.program.now c.args.counted.now c.args.limit c.members.left (calls_of c.args.frames.now) c.args.heap.now c.args.records.now (c.args.limit - c.members.left) (calls_of (standing c.args.own.now c.members.frames c.members.frame c.members.at)) c.members.heap c.members.records (omega (arith, c.members.invariant.few)) c.requires.safe c.members.invariant.runs
    (c.args.limit - c.go_near-gone.result.left) c.go_near-gone.result.left (calls_of (standing c.args.own.now c.members.frames c.go_near-gone.new.frame c.go_near-gone.result.at)) c.go_near-gone.new.heap steps few refl in
    let fits = member_fits c.args.program.now c.args.counted.now c.args.own.now c.args.marks.now c.args.limit c.go_near-gone.result.left (calls_of c.args.frames.now) c.args.heap.now c.args.records.now (c.args.limit - c.go_near-gone.result.left) c.members.frames c.go_near-gone.new.frame c.go_near-gone.result.at c.go_near-gone.new.heap c.members.records c.in-Member.member c.in-Member.count c.in-Member.behind there are (omega (arith, few, c.members.invariant.few)) runs member c.requires.safe in
    let room = c.go_near-gone.ensures.roomy.top in
    record {
      there = member.there;
      room = λ gives. let less = fits.1 gives in omega (arith, less, room);
      done = fits.0;
    }

pub members-preserved-in-Member : goal.members-preserved-in-Member
members-preserved-in-Member c =
    let told = rw c.in-Far.is at c.go_near-gone.ensures.leg.is in
    let there = ap (method_at c.args.program.now) c.go_near-gone.ensures.same ∙ c.members.invariant.own in
    let are = ap (marks_of c.args.counted.now) c.go_near-gone.ensures.same ∙ c.members.invariant.marks in
    let few = c.go_near-gone.ensures.leg.few in
    let call : IsCall c.args.program.now c.args.own.now c.args.marks.now c.is_live-live.result c.go_near-gone.result.left c.members.frames c.go_near-gone.new.frame c.go_near-gone.result.at c.go_near-gone.new.heap c.call_near.result = c.call_near.ensures in
    let member = subst (λ (b : Bool). CallsMember c.args.program.now c.args.own.now c.args.marks.now b c.go_near-gone.result.left c.members.frames c.go_near-gone.new.frame c.go_near-gone.result.at c.go_near-gone.new.heap c.in-Member.member c.in-Member.count c.in-Member.behind) c.is_live-live.ensures (rw c.in-Member.is at call) in
    let steps = subst (λ (b : Bool). CountedRunsTo c.args.program.now c.args.counted.now b (calls_of (standing c.args.own.now c.members.frames c.members.frame c.members.at)) c.members.heap (c.members.left - c.go_near-gone.result.left) (calls_of (standing c.args.own.now c.members.frames c.go_near-gone.new.frame c.go_near-gone.result.at)) c.go_near-gone.new.heap) c.is_live-live.ensures told.1 in
    let runs = ran_on c.args.program.now c.args.counted.now c.args.limit c.members.left (calls_of c.args.frames.now) c.args.heap.now c.args.records.now (c.args.limit - c.members.left) (calls_of (standing c.args.own.now c.members.frames c.members.frame c.members.at)) c.members.heap c.members.records (omega (arith, c.members.invariant.few)) c.requires.safe c.members.invariant.runs
    (c.args.limit - c.go_near-gone.result.left) c.go_near-gone.result.left (calls_of (standing c.args.own.now c.members.frames c.go_near-gone.new.frame c.go_near-gone.result.at)) c.go_near-gone.new.heap steps few refl in
    let same = done_method (member_meant c.in-Member.member) c.in-Member.count c.go_near-gone.new.frame c.do_member.new.frame c.members.records c.do_member.new.records c.in-Ok.ensures in
    let less = c.go_near-gone.ensures.leg.less in
    record {
      runs = member_on c.args.program.now c.args.counted.now c.args.own.now c.args.marks.now c.args.limit c.go_near-gone.result.left (calls_of c.args.frames.now) c.args.heap.now c.args.records.now (c.args.limit - c.go_near-gone.result.left) c.members.frames c.go_near-gone.new.frame c.go_near-gone.result.at c.go_near-gone.new.heap c.members.records c.in-Member.member c.in-Member.count c.in-Member.behind there are (omega (arith, few, c.members.invariant.few)) runs member c.do_member.new.frame c.do_member.new.records c.in-Ok.ensures;
      roomy = done_roomy c.args.program.now c.args.own.now c.members.frames c.go_near-gone.new.frame c.do_member.new.frame c.go_near-gone.result.at c.in-Member.behind c.in-Member.count (member_meant c.in-Member.member) c.members.records c.do_member.new.records c.in-Ok.ensures c.go_near-gone.ensures.roomy;
      own = ap (method_at c.args.program.now) same ∙ there;
      marks = ap (marks_of c.args.counted.now) same ∙ are;
      same = same ∙ (c.go_near-gone.ensures.same ∙ c.members.invariant.same);
      within = member.within;
      few = omega (arith, few, c.members.invariant.few);
      less = omega (arith, less, c.members.invariant.less);
    }

pub members-smaller-in-Member : goal.members-smaller-in-Member
members-smaller-in-Member c =
    let told = rw c.in-Far.is at c.go_near-gone.ensures.leg.is in
    let less = c.go_near-gone.ensures.leg.less in
    let more = told.0 in
    omega (arith, less, more)

pub returns-then-marks-code-clause-leg : goal.returns-then-marks-code-clause-leg
returns-then-marks-code-clause-leg c =
    lost_at_once c.args.program.now c.args.own.now c.args.counted.now c.args.limit c.args.most (calls_of c.args.frames.now) c.args.heap.now c.args.records.now c.args.frames.now c.args.heap.now

pub returns-in_default-clause-leg : goal.returns-in_default-clause-leg
returns-in_default-clause-leg c =
    lost_at_once c.args.program.now c.args.own.now c.args.counted.now c.args.limit c.args.most (calls_of c.args.frames.now) c.args.heap.now c.args.records.now c.args.frames.now c.args.heap.now

-- ---- a `yield`

pub do_yield-requires : goal.do_yield-requires
do_yield-requires c =
    let told = rw c.in-Far.is at c.go_near-gone.ensures.leg.is in
    let there = ap (method_at c.args.program.now) c.go_near-gone.ensures.same ∙ c.members.invariant.own in
    let are = ap (marks_of c.args.counted.now) c.go_near-gone.ensures.same ∙ c.members.invariant.marks in
    let few = c.go_near-gone.ensures.leg.few in
    let call : IsCall c.args.program.now c.args.own.now c.args.marks.now c.is_live-live.result c.go_near-gone.result.left c.members.frames c.go_near-gone.new.frame c.go_near-gone.result.at c.go_near-gone.new.heap c.call_near.result = c.call_near.ensures in
    let yields : CallsYield c.args.program.now c.args.own.now c.args.marks.now c.is_live-live.result c.go_near-gone.result.left c.members.frames c.go_near-gone.new.frame c.go_near-gone.result.at c.go_near-gone.new.heap c.in-Yields.count c.in-Yields.behind = rw c.in-Yields.is at call in
    let steps = subst (λ (b : Bool). CountedRunsTo c.args.program.now c.args.counted.now b (calls_of (standing c.args.own.now c.members.frames c.members.frame c.members.at)) c.members.heap (c.members.left - c.go_near-gone.result.left) (calls_of (standing c.args.own.now c.members.frames c.go_near-gone.new.frame c.go_near-gone.result.at)) c.go_near-gone.new.heap) c.is_live-live.ensures told.1 in
    let runs = ran_on c.args.program.now c.args.counted.now c.args.limit c.members.left (calls_of c.args.frames.now) c.args.heap.now c.args.records.now (c.args.limit - c.members.left) (calls_of (standing c.args.own.now c.members.frames c.members.frame c.members.at)) c.members.heap c.members.records (omega (arith, c.members.invariant.few)) c.requires.safe c.members.invariant.runs
    (c.args.limit - c.go_near-gone.result.left) c.go_near-gone.result.left (calls_of (standing c.args.own.now c.members.frames c.go_near-gone.new.frame c.go_near-gone.result.at)) c.go_near-gone.new.heap steps few refl in
    record { there = yields.there; args = yield_args c.args.program.now c.args.counted.now c.args.own.now c.args.marks.now c.args.limit c.go_near-gone.result.left (calls_of c.args.frames.now) c.args.heap.now c.args.records.now (c.args.limit - c.go_near-gone.result.left) c.members.frames c.go_near-gone.new.frame c.go_near-gone.result.at c.go_near-gone.new.heap c.members.records c.in-Yields.count c.in-Yields.behind there are (omega (arith, few, c.members.invariant.few)) runs c.is_live-live.result c.is_live-live.ensures yields c.requires.safe }

pub less_if-left-requires : goal.less_if-left-requires
less_if-left-requires c =
    let call : IsCall c.args.program.now c.args.own.now c.args.marks.now c.is_live-live.result c.go_near-gone.result.left c.members.frames c.go_near-gone.new.frame c.go_near-gone.result.at c.go_near-gone.new.heap c.call_near.result = c.call_near.ensures in
    let yields : CallsYield c.args.program.now c.args.own.now c.args.marks.now c.is_live-live.result c.go_near-gone.result.left c.members.frames c.go_near-gone.new.frame c.go_near-gone.result.at c.go_near-gone.new.heap c.in-Yields.count c.in-Yields.behind = rw c.in-Yields.is at call in
    yields.more

pub members-preserved : goal.members-preserved
members-preserved c =
    let told = rw c.in-Far.is at c.go_near-gone.ensures.leg.is in
    let there = ap (method_at c.args.program.now) c.go_near-gone.ensures.same ∙ c.members.invariant.own in
    let are = ap (marks_of c.args.counted.now) c.go_near-gone.ensures.same ∙ c.members.invariant.marks in
    let few = c.go_near-gone.ensures.leg.few in
    let call : IsCall c.args.program.now c.args.own.now c.args.marks.now c.is_live-live.result c.go_near-gone.result.left c.members.frames c.go_near-gone.new.frame c.go_near-gone.result.at c.go_near-gone.new.heap c.call_near.result = c.call_near.ensures in
    let yields : CallsYield c.args.program.now c.args.own.now c.args.marks.now c.is_live-live.result c.go_near-gone.result.left c.members.frames c.go_near-gone.new.frame c.go_near-gone.result.at c.go_near-gone.new.heap c.in-Yields.count c.in-Yields.behind = rw c.in-Yields.is at call in
    let steps = subst (λ (b : Bool). CountedRunsTo c.args.program.now c.args.counted.now b (calls_of (standing c.args.own.now c.members.frames c.members.frame c.members.at)) c.members.heap (c.members.left - c.go_near-gone.result.left) (calls_of (standing c.args.own.now c.members.frames c.go_near-gone.new.frame c.go_near-gone.result.at)) c.go_near-gone.new.heap) c.is_live-live.ensures told.1 in
    let runs = ran_on c.args.program.now c.args.counted.now c.args.limit c.members.left (calls_of c.args.frames.now) c.args.heap.now c.args.records.now (c.args.limit - c.members.left) (calls_of (standing c.args.own.now c.members.frames c.members.frame c.members.at)) c.members.heap c.members.records (omega (arith, c.members.invariant.few)) c.requires.safe c.members.invariant.runs
    (c.args.limit - c.go_near-gone.result.left) c.go_near-gone.result.left (calls_of (standing c.args.own.now c.members.frames c.go_near-gone.new.frame c.go_near-gone.result.at)) c.go_near-gone.new.heap steps few refl in
    let same = yield_method c.is_live-live.result c.in-Yields.count c.go_near-gone.new.frame c.do_yield.new.frame c.members.records c.do_yield.new.records c.do_yield.ensures in
    let less = c.go_near-gone.ensures.leg.less in
    let fewer = no_more c.is_live-live.result c.go_near-gone.result.left c.less_if-left.result c.less_if-left.ensures in
    record {
      runs = yield_on c.args.program.now c.args.counted.now c.args.own.now c.args.marks.now c.args.limit c.go_near-gone.result.left (calls_of c.args.frames.now) c.args.heap.now c.args.records.now (c.args.limit - c.go_near-gone.result.left) c.members.frames c.go_near-gone.new.frame c.go_near-gone.result.at c.go_near-gone.new.heap c.members.records c.in-Yields.count c.in-Yields.behind there are (omega (arith, few, c.members.invariant.few)) runs c.is_live-live.result c.is_live-live.ensures yields c.less_if-left.result c.do_yield.new.frame c.do_yield.new.records (yield_args c.args.program.now c.args.counted.now c.args.own.now c.args.marks.now c.args.limit c.go_near-gone.result.left (calls_of c.args.frames.now) c.args.heap.now c.args.records.now (c.args.limit - c.go_near-gone.result.left) c.members.frames c.go_near-gone.new.frame c.go_near-gone.result.at c.go_near-gone.new.heap c.members.records c.in-Yields.count c.in-Yields.behind there are (omega (arith, few, c.members.invariant.few)) runs c.is_live-live.result c.is_live-live.ensures yields c.requires.safe) c.less_if-left.ensures c.do_yield.ensures;
      roomy = yield_roomy c.args.program.now c.args.own.now c.members.frames c.go_near-gone.new.frame c.do_yield.new.frame c.go_near-gone.result.at c.in-Yields.behind c.in-Yields.count c.is_live-live.result c.members.records c.do_yield.new.records c.do_yield.ensures c.go_near-gone.ensures.roomy;
      own = ap (method_at c.args.program.now) same ∙ there;
      marks = ap (marks_of c.args.counted.now) same ∙ are;
      same = same ∙ (c.go_near-gone.ensures.same ∙ c.members.invariant.same);
      within = yields.within;
      few = omega (arith, few, fewer, c.members.invariant.few);
      less = omega (arith, less, c.members.invariant.less);
    }

pub members-smaller : goal.members-smaller
members-smaller c =
    let told = rw c.in-Far.is at c.go_near-gone.ensures.leg.is in
    let less = c.go_near-gone.ensures.leg.less in
    let more = told.0 in
    omega (arith, less, more)
