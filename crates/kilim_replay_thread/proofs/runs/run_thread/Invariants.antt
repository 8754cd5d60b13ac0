use Rattle.std.proofs.Common.{◌≤◌, ◌-◌}
use Rattle.kilim_run_state.specs.frames.Calls.{calls_of}
use Rattle.kilim_run_interp.specs.Step.{AreRoomy}
use Rattle.kilim_replay_thread.specs.Thread.{RunsTo}
use Rattle.kilim_replay_thread.proofs.runs.run_thread.Given as goal

abbrev pub invariant-steps : goal.invariant-steps
invariant-steps l = record {
  runs : RunsTo l.program (calls_of l.fn.frames) l.fn.heap l.fn.next (l.fn.limit - l.left) (calls_of l.frames) l.heap l.next;
  roomy : AreRoomy l.program l.frames;
  few : l.left ≤ l.fn.limit;
}

abbrev pub decreases-steps : goal.decreases-steps
decreases-steps l = l.left
