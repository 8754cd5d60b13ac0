-- A fiber of a course: whose heap has places that are used again, and which is what the woven machine comes to along the course.
use Rattle.std.specs.Prelude.{◌≡◌, ℕ, Bool, List, [], Some}
use Rattle.kilim_program.specs.Program.{Program}
use Rattle.kilim_run_model.specs.Course.{Course, IsLone, lone_begun}
use Rattle.kilim_run_model.specs.Lone.{Lone}
use Rattle.kilim_run_model.specs.State.{Setting}
use Rattle.kilim_fiber_laws.specs.woven_kin.history.History.{Reaches}
use Rattle.kilim_fiber_laws.specs.woven_kin.Alike.{Like}
use Rattle.kilim_fiber_laws.specs.woven_kin.Standing.{Standing}
use Rattle.kilim_fiber_laws.specs.woven_served.Served.{first_fiber}
use Rattle.kilim_fiber_laws.specs.receivers.states.Law.{acts_of, world_at}

-- A fiber of task t that begins as the course does comes to stand so by the deeds of the course: for all deeds and pauses that may still be to come
-- there are pauses on its way with which it does. Its names are never used again.
pub record IsReached (set : Setting) (W : Program) (marks : List (List Bool)) (t : ℕ) (c : Course) (x : Standing) : Type 0 where
  pub begun : Lone
  pub begins : lone_begun set c.beginning ≡ Some begun
  pub comes : Reaches set W marks t (λ deeds pauses. first_fiber set W marks c.beginning (world_at t begun deeds []) pauses) c.deeds (acts_of c.deeds []) x

-- the same up to the names of objects
pub record Holds (set : Setting) (W : Program) (marks : List (List Bool)) (t : ℕ) (c : Course) (f : Standing) : Type 0 where
  pub at : Standing
  pub reached : IsReached set W marks t c at
  pub like : Like at f

-- and the course is that of a thread
pub record IsFiberOf (set : Setting) (W : Program) (marks : List (List Bool)) (t : ℕ) (c : Course) (f : Standing) : Type 0 where
  pub lone : Lone
  pub is : IsLone set t c lone
  pub holds : Holds set W marks t c f
