-- A law of both machines.
use Rattle.std.specs.Prelude.{◌≡◌, Bool, List}
use Rattle.kilim_program.specs.Program.{Program}
use Rattle.kilim_run_model.specs.State.{Setting}
use Rattle.kilim_fiber_spec.specs.Acts.{Over}
use Rattle.kilim_fiber_spec.specs.Thread.{Stop, step}
use Rattle.kilim_fiber_spec.specs.Fibers.{WStop, wstep}

-- what is over stays as it is
abbrev pub EndsStay : Type 0
EndsStay = (set : Setting) (W : Program) (marks : List (List Bool)) (over : Over) → (step set (Stop over) ≡ Stop over) × (wstep set W marks (WStop over) ≡ WStop over)
