use Rattle.std.proofs.Common.{◌≡◌, ◌≤◌, ◌-◌, ◌==◌, false}
use Rattle.kilim_run_model.specs.Course.{Quiet}
use Rattle.kilim_replay_thread.specs.Live.{RoomyIn, lone_at}
use Rattle.kilim_replay_thread.specs.Reach.{setting_of}
use Rattle.kilim_replay_thread.proofs.advance.reach.Given as goal

abbrev pub invariant-loop-came : goal.invariant-loop-came
invariant-loop-came l = record {
  quiet : Quiet (setting_of l.program l.main l.limits) l.task (lone_at l.task l.fn.world l.fn.live) (lone_at l.task l.world l.live);
  least : l.fn.live.done ≤ l.live.done;
  roomy : RoomyIn l.program l.live.frames;
  kept : (l.task == 0) ≡ false → l.world.kept ≡ l.fn.world.kept;
}

abbrev pub decreases-loop-came : goal.decreases-loop-came
decreases-loop-came l = l.limits.steps - l.live.done
