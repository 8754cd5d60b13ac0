-- What the loop over one frame does of an instruction.
use Rattle.std.specs.Prelude.{◌≡◌, ℕ, Bool, true, false, Option, None, Some}
use Rattle.kilim_program.specs.declared.class.Method.{Method}
use Rattle.kilim_program.specs.declared.instr.Instr.{Instr}
use Rattle.kilim_program.specs.declared.instr.Instr.TheVariants.{Anewarray, Invokespecial, Invokestatic, Invokevirtual, New, Newarray}
use Rattle.kilim_run_state.specs.Machine.{Objects}
use Rattle.kilim_run_machine.specs.Effect.{Effect}
use Rattle.kilim_run_state.specs.declared.frames.frame.Frame.{Frame}
use Rattle.kilim_run_rows.specs.declared.outcome.Moved.{Moved}
use Rattle.kilim_run_rows.specs.Outcome.{IsStill, Shows}

-- it calls or makes something
abbrev pub is_far : Instr → Bool
is_far (Invokevirtual m) = true
is_far (Invokespecial m) = true
is_far (Invokestatic m) = true
is_far (New c) = true
is_far (Newarray b) = true
is_far (Anewarray ty) = true
is_far _ = false

-- that effect is the one that an outcome tells; where there is none, it is an instruction that calls or makes something, and nothing was done
abbrev pub ShowsNear : Method → Instr → Effect → ℕ → Option Moved → Frame → Frame → Objects → Objects → Type 0
ShowsNear own i e next None before after old new = (is_far i ≡ true) × IsStill before after old new
ShowsNear own i e next (Some moved) before after old new = Shows own e next moved before after old new
