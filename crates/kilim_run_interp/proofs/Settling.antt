-- From what came of an instruction of the top frame to the machine's move.
use Rattle.std.proofs.Common.{◌≡◌, ◌∙◌, sym, ap, subst, ℕ, List, ◌∷◌, Some}
use Rattle.kilim_program.specs.declared.names.ClassId.{ClassId}
use Rattle.kilim_program.specs.declared.names.MethodId.{MethodId}
use Rattle.kilim_program.specs.declared.value.Value.{Value}
use Rattle.kilim_program.specs.Program.{Program}
use Rattle.kilim_run_state.specs.declared.cause.EndCause.{EndCause}
use Rattle.kilim_run_state.specs.Machine.{Activation, Objects}
use Rattle.kilim_run_machine.specs.Effect.{Effect, Goes, Raises, Throws, Ends}
use Rattle.kilim_run_machine.specs.Moves as move
use Rattle.kilim_run_machine.specs.Moves.{move_by}
use Rattle.kilim_run_state.specs.declared.frames.frame.Frame.{Frame}
use Rattle.kilim_run_state.specs.declared.frames.frames.Frames.{Frames}
use Rattle.kilim_run_state.specs.frames.Calls.{activation}
use Rattle.kilim_run_rows.specs.Outcome.{IsMade, IsStill}
use Rattle.kilim_run_interp.specs.Step.{IsWent, RanOn, MadeOne, Steps}
use Rattle.kilim_run_interp.specs.declared.machine.Stepped.{Stepped}

module _ (p : Program) (e : Effect) (before after : Frame) (below : List Activation) (h k : Objects) where
  -- the task goes on at a place
  pub goes_on_at : (place : ℕ) → before.method ≡ after.method → e ≡ Goes place after.locals after.stack.values k →
      IsWent (move_by p e (activation before) below) (record { method = after.method; place = place; locals = after.locals; stack = after.stack.values } ∷ below) h k
  goes_on_at place same is =
      RanOn move.Steps
      (ap (λ (x : Effect). move_by p x (activation before) below) is
      ∙ ap (λ (m : MethodId). move.Runs move.Steps (record { method = m; place = place; locals = after.locals; stack = after.stack.values } ∷ below) k) same)

  -- it goes on with a new object
  pub goes_on_made : (next at : ℕ) → before.method ≡ after.method → IsMade e next at after h k →
      IsWent (move_by p e (activation before) below) (record { method = after.method; place = next; locals = after.locals; stack = after.stack.values } ∷ below) h k
  goes_on_made next at same made =
      MadeOne made.object at (record { method = after.method; place = next; locals = after.locals; stack = made.rest } ∷ below)
      (ap (λ (x : Effect). move_by p x (activation before) below) made.is
      ∙ ap (λ (m : MethodId). move.Makes made.object (record { method = m; place = next; locals = after.locals; stack = made.rest } ∷ below) h) same)
      (ap (λ (s : List Value). record { method = after.method; place = next; locals = after.locals; stack = s } ∷ below) made.stack)
      made.fresh made.added

  -- where nothing was done, what is known of the frame and the heap as they are is known of those before
  pub from_still : (stepped : Stepped) (new : Frames) (x : Effect) → e ≡ x → IsStill before after h k →
      Steps (move_by p x (activation after) below) stepped (activation after ∷ below) new k k →
      Steps (move_by p e (activation before) below) stepped (activation before ∷ below) new h k
  from_still stepped new x is still steps =
      let here : Steps (move_by p e (activation after) below) stepped (activation after ∷ below) new k k =
      subst (λ (y : Effect). Steps (move_by p y (activation after) below) stepped (activation after ∷ below) new k k) (sym is) steps in
      let there : Steps (move_by p e (activation after) below) stepped (activation after ∷ below) new h k =
      subst (λ (z : Objects). Steps (move_by p e (activation after) below) stepped (activation after ∷ below) new z k) still.heap here in
      subst (λ (f : Frame). Steps (move_by p e (activation f) below) stepped (activation f ∷ below) new h k) still.frame there

  pub raises : (c : EndCause) → e ≡ Raises c → move_by p e (activation before) below ≡ move.Raises c
  raises c is = ap (λ (x : Effect). move_by p x (activation before) below) is

  pub throws : (n : ℕ) (class : ClassId) (c : EndCause) → e ≡ Throws n class c → move_by p e (activation before) below ≡ move.Throws n class c
  throws n class c is = ap (λ (x : Effect). move_by p x (activation before) below) is

  pub ends : (c : EndCause) → e ≡ Ends c → move_by p e (activation before) below ≡ move.Ends c
  ends c is = ap (λ (x : Effect). move_by p x (activation before) below) is
