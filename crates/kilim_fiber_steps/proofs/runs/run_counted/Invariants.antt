use Rattle.std.proofs.Common.{◌≤◌, ◌-◌}
use Rattle.kilim_run_state.specs.frames.Calls.{calls_of}
use Rattle.kilim_run_interp.specs.Step.{AreRoomy}
use Rattle.kilim_fiber_steps.specs.Woven.{FiberRunsTo}
use Rattle.kilim_fiber_steps.proofs.runs.run_counted.Given as goal

abbrev pub invariant-steps : goal.invariant-steps
invariant-steps l = record {
  runs : FiberRunsTo l.program l.counted l.fn.limit (calls_of l.fn.frames) l.fn.heap l.fn.records (l.fn.limit - l.left) (calls_of l.frames) l.heap l.records;
  roomy : AreRoomy l.program l.frames;
  few : l.left ≤ l.fn.limit;
}

abbrev pub decreases-steps : goal.decreases-steps
decreases-steps l = l.fuel
