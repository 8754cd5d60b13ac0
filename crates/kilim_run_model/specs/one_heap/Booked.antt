-- The parted machine and what its journal says alone.
use Rattle.std.specs.Prelude.{◌≡◌, ◌≤◌, ℕ, Some, length, slice_get}
use Rattle.kilim_program.specs.declared.names.BoxName.{BoxName}
use Rattle.kilim_run_model.specs.State.{Setting}
use Rattle.kilim_run_model.specs.Lone.{Lone}
use Rattle.kilim_run_model.specs.Turn.{task_limit}
use Rattle.kilim_run_model.specs.Course.{Course, IsLone, Quiet}
use Rattle.kilim_run_model.specs.Moving.{Books}
use Rattle.kilim_run_model.specs.one_heap.Parted.{Parted}

-- the thread of a course, some moves without an action further
pub record IsOf (set : Setting) (t : ℕ) (c : Course) (l : Lone) : Type 0 where
  pub last : Lone
  pub is : IsLone set t c last
  pub quiet : Quiet set t last l

-- each thread is that of its course in the books, and the mailboxes are those of the books
pub record Booked (set : Setting) (m : Parted) (b : Books) : Type 0 where
  pub count : length m.lones ≡ length b.courses
  pub few : length b.courses ≤ task_limit
  pub each : (t : ℕ) (l : Lone) (c : Course) → slice_get m.lones t ≡ Some l → slice_get b.courses t ≡ Some c → IsOf set t c l
  pub mail : (box : BoxName) → m.mailboxes box ≡ b.mailboxes box
