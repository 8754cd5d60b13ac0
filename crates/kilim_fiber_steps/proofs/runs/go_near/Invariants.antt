use Rattle.std.proofs.Common.{◌≡◌, ◌≤◌, ◌<◌, ◌-◌, Some, length}
use Rattle.kilim_program.specs.Names.{method_at}
use Rattle.kilim_run_state.specs.frames.Calls.{calls_of}
use Rattle.kilim_run_interp.specs.Step.{AreRoomy}
use Rattle.kilim_fiber_spec.specs.Fibers.{marks_of}
use Rattle.kilim_fiber_steps.specs.Counted.{CountedRunsTo}
use Rattle.kilim_fiber_steps.specs.Legs.{standing}
use Rattle.kilim_fiber_steps.proofs.runs.go_near.Given as goal

abbrev pub invariant-loop-fuel : goal.invariant-loop-fuel
invariant-loop-fuel l = record {
  runs : CountedRunsTo l.program l.counted l.live (calls_of (standing l.own l.frames l.fn.frame l.fn.first)) l.fn.heap (l.fn.limit - l.left) (calls_of (standing l.own l.frames l.frame l.at)) l.heap;
  roomy : AreRoomy l.program (standing l.own l.frames l.frame l.at);
  own : method_at l.program l.frame.method ≡ Some l.own;
  marks : marks_of l.counted l.frame.method ≡ l.marks;
  same : l.frame.method ≡ l.fn.frame.method;
  within : l.at < length l.code;
  few : l.left ≤ l.fn.limit;
  less : l.fuel ≤ l.fn.most;
}

abbrev pub decreases-loop-fuel : goal.decreases-loop-fuel
decreases-loop-fuel l = l.fuel
