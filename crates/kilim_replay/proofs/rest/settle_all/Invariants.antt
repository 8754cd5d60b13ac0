use Rattle.std.proofs.Common.{◌≡◌, length}
use Rattle.kilim_run_model.specs.State.{State}
use Rattle.kilim_replay_thread.specs.Reach.{setting_of}
use Rattle.kilim_replay.specs.Machine.{AreRoomyTasks, IsAt}
use Rattle.kilim_replay.proofs.Ending.{Passed}
use Rattle.kilim_replay.proofs.rest.settle_all.Given as goal

abbrev pub invariant-loop-at : goal.invariant-loop-at
invariant-loop-at l = record {
  passed : (s : State) → IsAt (setting_of l.program l.main l.limits) l.fn.machine s → Passed (setting_of l.program l.main l.limits) s l.at l.machine l.standings.items;
  all : AreRoomyTasks l.program l.machine.tasks.items;
  many : length l.machine.tasks.items ≡ length l.fn.machine.tasks.items;
}
