-- What the fibers of a woven program rest on.
use Rattle.std.specs.Prelude.{Bool, List}
use Rattle.kilim_program.specs.Program.{Program}
use Rattle.kilim_isolation_laws.specs.Laws.{IsRunOfAccepted}
use Rattle.kilim_run_model.specs.State.{Setting}
use Rattle.kilim_weave_spec.specs.Form.{WovenForm}
use Rattle.kilim_fiber_laws.specs.woven_served.Served.{ServesRun}

-- The setting is that of a run of an accepted program; the woven program is a woven form of it, and serves the run.
pub record CanServe (set : Setting) (W : Program) (marks : List (List Bool)) : Type 0 where
  pub run : IsRunOfAccepted set
  pub woven : WovenForm set.program W marks
  pub runs : ServesRun set W marks
