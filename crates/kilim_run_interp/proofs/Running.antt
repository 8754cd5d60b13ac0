-- One instruction of the top frame, after which the task goes on.
use Rattle.std.proofs.Common.{◌≡◌, ◌∙◌, sym, ℕ, List, ◌∷◌, Some}
use Rattle.kilim_program.specs.declared.class.Method.{Method}
use Rattle.kilim_program.specs.declared.instr.Instr.{Instr}
use Rattle.kilim_program.specs.Lengths.{fetched}
use Rattle.kilim_program.specs.Names.{method_at}
use Rattle.kilim_program.specs.Program.{Program}
use Rattle.kilim_run_state.specs.Machine.{Activation, Objects}
use Rattle.kilim_run_machine.specs.Does.{does}
use Rattle.kilim_run_machine.specs.Effect.{Effect, Goes}
use Rattle.kilim_run_machine.specs.Moves.{effect_of, moves}
use Rattle.kilim_run_state.specs.declared.frames.frame.Frame.{Frame}
use Rattle.kilim_run_state.specs.frames.Calls.{activation}
use Rattle.kilim_run_rows.specs.Outcome.{IsMade}
use Rattle.kilim_run_interp.specs.Step.{IsWent}
use Rattle.kilim_run_interp.proofs.Reading.{effect_is}
use Rattle.kilim_run_interp.proofs.Settling.{goes_on_at, goes_on_made}

module _ (p : Program) (own : Method) (i : Instr) (next : ℕ) (before after : Frame) (below : List Activation) (h k : Objects)
    (there : method_at p before.method ≡ Some own) (found : fetched own.code own.code_length before.pc ≡ Some (i, next)) (same : after.method ≡ before.method) where
  told : Effect
  told = does p own i next before.locals before.stack.values h

  is : effect_of p (activation before) h ≡ told
  unfolding told
  is = effect_is p (activation before) h own i next there found

  pub went_on : (place : ℕ) → does p own i next before.locals before.stack.values h ≡ Goes place after.locals after.stack.values k →
      IsWent (moves p (activation before) below h) (record { method = after.method; place = place; locals = after.locals; stack = after.stack.values } ∷ below) h k
  unfolding moves told
  went_on place shows = goes_on_at p (effect_of p (activation before) h) before after below h k place (sym same) (is ∙ shows)

  pub went_made : (at : ℕ) → IsMade (does p own i next before.locals before.stack.values h) next at after h k →
      IsWent (moves p (activation before) below h) (record { method = after.method; place = next; locals = after.locals; stack = after.stack.values } ∷ below) h k
  unfolding moves told
  went_made at made =
      goes_on_made p (effect_of p (activation before) h) before after below h k next at (sym same)
      (record { object = made.object; rest = made.rest; stack = made.stack; is = is ∙ made.is; fresh = made.fresh; added = made.added })
