-- How the run of a program begins.
use Rattle.std.specs.Prelude.{◌≡◌, Some}
use Rattle.std.specs.FinMap.{empty, insert}
use Rattle.kilim_program.specs.Program.{Program}
use Rattle.kilim_program.specs.declared.names.ClassId.{ClassId}
use Rattle.kilim_program.specs.Members.{constructor_of}
use Rattle.kilim_run_state.specs.Objects.{new_object}
use Rattle.kilim_run_model.specs.State.{begun_on}
use Rattle.kilim_replay_thread.specs.Live.{calls_in, RoomyIn}
use Rattle.kilim_replay_thread.specs.declared.task.Live.{Live}
use Rattle.kilim_replay_thread.specs.declared.task.World.{World}

-- one new object of the main class, and task 0 at the beginning of its constructor
pub record Boots (p : Program) (main : ClassId) (w : World) (l : Live) : Type 0 where
  pub heap : w.heap ≡ insert empty 0 (new_object p main)
  pub next : w.next ≡ 1
  pub kept : w.kept ≡ Some 0
  pub frames : begun_on p (constructor_of p main) 0 ≡ Some (calls_in l.frames)
  pub done : l.done ≡ 0
  pub boxes : l.boxes ≡ 0
  pub roomy : RoomyIn p l.frames
