-- A listed frame shows the types at a place of a plan.
use Rattle.std.specs.Prelude.{◌≡◌, ◌≤◌, ℕ, zero, suc, Bool, true, false, List, Option, None, Some, is_some, length, slice_get, reverse}
use Rattle.kilim_program.specs.declared.instr.Instr.{Instr}
use Rattle.kilim_program.specs.declared.verified.Frame.{Frame}
use Rattle.kilim_program.specs.Program.{Program}
use Rattle.kilim_type_spec.specs.Step.{peek}
use Rattle.kilim_weave_spec.specs.Woven.{Plan, pausable_callee, saved_from}

pub record Shown (x : Plan) (place : ℕ) (frame : Frame) : Type 0 where
  pub locals : (slot : ℕ) → peek frame.locals slot ≡ peek (x.typing place).locals slot
  pub saved : (live : ℕ → Bool) → saved_from live 0 frame.locals ≡ saved_from live 0 (x.typing place).locals
  pub stack : reverse frame.stack ≡ (x.typing place).stack
  pub few : length frame.locals ≤ x.method.max_locals

-- whether an instruction stands at the first place or behind a pausable call, by its number
abbrev pub calls_one : Program → Option (ℕ × Instr) → Bool
calls_one p None = false
calls_one p (Some e) = is_some (pausable_callee p e.1)

abbrev pub first_here : Program → List (ℕ × Instr) → ℕ → Bool
first_here p code zero = true
first_here p code (suc at) = calls_one p (slice_get code at)
