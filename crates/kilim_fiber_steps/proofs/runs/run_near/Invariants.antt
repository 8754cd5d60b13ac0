use Rattle.std.proofs.Common.{◌≡◌, ◌≤◌, ◌<◌, ◌-◌, Some, length}
use Rattle.kilim_program.specs.Names.{method_at}
use Rattle.kilim_run_state.specs.frames.Calls.{calls_of}
use Rattle.kilim_run_interp.specs.Step.{AreRoomy}
use Rattle.kilim_fiber_spec.specs.Fibers.{marks_of}
use Rattle.kilim_fiber_steps.specs.Legs.{standing}
use Rattle.kilim_fiber_steps.specs.Woven.{FiberRunsTo}
use Rattle.kilim_fiber_steps.proofs.runs.run_near.Given as goal

abbrev pub invariant-members : goal.invariant-members
invariant-members l = record {
  runs : FiberRunsTo l.program l.counted l.fn.limit (calls_of l.fn.frames) l.fn.heap l.fn.records (l.fn.limit - l.left) (calls_of (standing l.own l.frames l.frame l.at)) l.heap l.records;
  roomy : AreRoomy l.program (standing l.own l.frames l.frame l.at);
  own : method_at l.program l.frame.method ≡ Some l.own;
  marks : marks_of l.counted l.frame.method ≡ l.marks;
  same : l.frame.method ≡ l.fn.frames.top.method;
  within : l.at < length l.own.code;
  few : l.left ≤ l.fn.limit;
  less : l.fuel ≤ l.fn.most;
}

abbrev pub decreases-members : goal.decreases-members
decreases-members l = l.fuel
