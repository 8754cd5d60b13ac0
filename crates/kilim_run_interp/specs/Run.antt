-- Several steps of a task, one after the other.
use Rattle.std.specs.Prelude.{◌≡◌, false, List, [], ◌∷◌}
use Rattle.kilim_program.specs.Program.{Program}
use Rattle.kilim_run_state.specs.Machine.{Activation, Objects}
use Rattle.kilim_run_machine.specs.Moves.{effect_of, moves}
use Rattle.kilim_run_state.specs.declared.frames.frames.Frames.{Frames}
use Rattle.kilim_run_rows.specs.Outcome.{is_stuck}
use Rattle.kilim_run_interp.specs.Step.{FitsStack, IsWent, Steps}
use Rattle.kilim_run_interp.specs.declared.machine.Stepped.{Stepped}

-- one step, after which the task goes on
abbrev pub StepsTo : Program → List Activation → Objects → List Activation → Objects → Type 0
StepsTo p [] h calls k = ⊥
StepsTo p (top ∷ below) h calls k = IsWent (moves p top below h) calls h k

-- the next step of these frames isn't stuck, and has room for what it leaves on the stack
pub record IsFine (p : Program) (top : Activation) (below : List Activation) (h : Objects) : Type 0 where
  pub fine : is_stuck (effect_of p top h) ≡ false
  pub fits : FitsStack p (effect_of p top h) top.method below

-- the last step from these frames and this heap answers so, and leaves those
abbrev pub LastSteps : Program → List Activation → Objects → Stepped → Frames → Objects → Type 0
LastSteps p [] h stepped new k = ⊥
LastSteps p (top ∷ below) h stepped new k = Steps (moves p top below h) stepped (top ∷ below) new h k
