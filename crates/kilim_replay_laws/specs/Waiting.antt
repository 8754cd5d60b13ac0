-- Where a thread may have to wait, it stands at the call of `get` or of a put that waits.
use Rattle.std.specs.Prelude.{◌≡◌, ◌<◌, ℕ, Bool, true, false, List, [], ◌∷◌, Option, Some, None}
use Rattle.kilim_program.specs.declared.names.BoxName.{BoxName}
use Rattle.kilim_program.specs.declared.names.MethodId.{MethodId}
use Rattle.kilim_program.specs.declared.value.Value.{Value}
use Rattle.kilim_program.specs.declared.value.Value.TheVariants.{Ref, Box}
use Rattle.kilim_run_state.specs.Machine.{Activation}
use Rattle.kilim_run_machine.specs.Natives.{Native, native_of}
use Rattle.kilim_run_machine.specs.Natives as native
use Rattle.kilim_run_machine.specs.Moves.{moves, Asks}
use Rattle.kilim_run_model.specs.State.{Setting, Alive}
use Rattle.kilim_run_model.specs.Lone.{Lone, next_move, get_at}
use Rattle.kilim_run_model.specs.declared.waits.Waits.{Waits}
use Rattle.kilim_run_model.specs.declared.waits.Waits.TheVariants as wait

-- a call that may have to wait for that
abbrev pub IsWaitCall : Waits → Option Native → List Value → Type 0
IsWaitCall (wait.Take box) (Some native.Get) (Box b ∷ []) = b ≡ box
IsWaitCall (wait.Put box) (Some native.PutWait) (Box b ∷ Ref n ∷ []) = b ≡ box
IsWaitCall w o args = ⊥

-- one that may have to wait
abbrev pub waits_call : Option Native → List Value → Bool
waits_call (Some native.Get) (Box b ∷ []) = true
waits_call (Some native.PutWait) (Box b ∷ Ref n ∷ []) = true
waits_call o args = false

-- the thread stands there, with instructions left
pub record AsksToWait (set : Setting) (w : Waits) (l : Lone) : Type 0 where
  pub top : Activation
  pub below : List Activation
  pub done : ℕ
  pub boxes : ℕ
  pub alive : l.thread ≡ Alive (top ∷ below) done boxes
  pub few : done < set.limits.steps
  pub method : MethodId
  pub args : List Value
  pub frames : List Activation
  pub asks : moves set.program top below l.heap ≡ Asks method args frames l.heap
  pub calls : IsWaitCall w (native_of set.program method) args

-- a thread that may have to wait on one heap stands at such a call on every heap
abbrev pub WaitsAsk : Type 0
WaitsAsk = (set : Setting) (t : ℕ) (a b : Lone) (w : Waits) → a.thread ≡ b.thread → get_at (next_move set t a) ≡ Some w → AsksToWait set w b
