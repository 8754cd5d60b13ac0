-- What woven programs are for.
use Rattle.std.specs.Prelude.{◌≡◌}
use Rattle.kilim_program.specs.Program.{Program}
use Rattle.kilim_isolation_laws.specs.Laws.{IsRunOfAccepted}
use Rattle.kilim_run_model.specs.State.{Setting}
use Rattle.kilim_type_spec.specs.Typed.{IsWellTyped}
use Rattle.kilim_weave.specs.declared.weaving.Woven.{Woven}
use Rattle.kilim_weave_spec.specs.Form.{WovenForm}
use Rattle.kilim_fiber_laws.specs.woven_served.Served.{ServesRun}

-- It is the woven form of the program and well typed; and in every run of the program, where it is accepted and the main class is fit, a fiber
-- of the woven program does what the task does.
pub record ServesEachRun (p : Program) (w : Woven) : Type 0 where
  pub form : WovenForm p w.program w.counted
  pub typed : IsWellTyped w.program
  pub runs : (set : Setting) → set.program ≡ p → IsRunOfAccepted set → ServesRun set w.program w.counted
