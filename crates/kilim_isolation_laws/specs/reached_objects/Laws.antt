-- What a thread of accepted code reaches is in its heap.
use Rattle.std.specs.Prelude.{◌≡◌, ◌⊎◌, ℕ, Bool, true, List, ◌∷◌, Option, Some}
use Rattle.std.specs.FinMap.{get}
use Rattle.kilim_program.specs.declared.class.Handler.{Handler}
use Rattle.kilim_program.specs.declared.class.Method.{Method}
use Rattle.kilim_program.specs.declared.instr.Instr.{Instr}
use Rattle.kilim_program.specs.declared.names.MethodId.{MethodId}
use Rattle.kilim_program.specs.Keeps.{Keeps}
use Rattle.kilim_program.specs.Names.{method_at}
use Rattle.kilim_program.specs.Program.{Program}
use Rattle.kilim_run_state.specs.declared.value.Object.{Object}
use Rattle.kilim_run_state.specs.Machine.{Activation, Objects, stands_behind}
use Rattle.kilim_run_model.specs.Reach.{Below, FramesName, Liveness, MaybeNames}
use Rattle.kilim_type_spec.specs.Typed.{IsWellTyped, Live, covers, listed_frames}
use Rattle.kilim_type_laws.specs.Laws.{typing_at}
use Rattle.kilim_type_spec.specs.TypedProgram.{TypedProgram}
use Rattle.kilim_isolation_pauses.specs.Pausing.{frames_at}
use Rattle.kilim_isolation.specs.Faults.{IsAccepted}
use Rattle.kilim_isolation_paths.specs.Paths.{Has}
use Rattle.kilim_type_sound.specs.Fits.{AreThere, Classes, Fits, Verified, Wanted}
use Rattle.kilim_isolation_laws.specs.reached_objects.graphs.Threads.{FramesFit}

-- the program with the frames that verification lists
abbrev pub typed : Program → TypedProgram
typed p = record { program = p; frames = listed_frames p }

-- what the table takes for live is
abbrev pub TopLive : Program → (MethodId → ℕ → ℕ → Bool) → Type 0
TopLive p table = (id : MethodId) (m : Method) (at k : ℕ) → method_at p id ≡ Some m → table id at k ≡ true → Live m k at

-- at a handler whose range has the call behind which the place stands
abbrev pub IsLiveAtHandler : Method → (k place : ℕ) → Type 0
IsLiveAtHandler m k place = (call : ℕ × Instr) × (h : Handler) × (stands_behind m.code m.code_length place ≡ Some call) × Has m.handlers h × (covers h call.0 ≡ true) × Live m k h.at

-- of a frame that waits behind a call: after the call, or at such a handler
abbrev pub LowerLive : Program → (MethodId → ℕ → ℕ → Bool) → Type 0
LowerLive p table = (id : MethodId) (m : Method) (at k : ℕ) → method_at p id ≡ Some m → table id at k ≡ true → Live m k at ⊎ IsLiveAtHandler m k at

abbrev pub AreLive : Program → Liveness → Type 0
AreLive p live = TopLive p live.top × LowerLive p live.below

-- an accepted program, and which locals its verification wants
pub record IsChecked (p : Program) (wanted : Wanted) : Type 0 where
  pub keeps : Keeps p
  pub well : IsWellTyped p
  pub accepted : IsAccepted (typed p)
  pub verified : Verified p (typing_at p) wanted

-- A thread's frames stand with their graphs, and fit the frames of verification.
pub record FitsBoth (p : Program) (wanted : Wanted) (of : Classes) (kept : Option ℕ) (frames : List Activation) (h : Objects) : Type 0 where
  pub graphs : FramesFit p (typing_at p) (λ id. frames_at (typed p) id) kept h frames
  pub types : Fits p (typing_at p) wanted of frames h

-- What is at or below an object that an item of the stack or a live local of a frame names, or that is kept.
abbrev pub ReachedAreThere : Type 0
ReachedAreThere = (p : Program) (wanted : Wanted) (live : Liveness) (of : Classes) (kept : Option ℕ) (frames : List Activation) (h : Objects) → IsChecked p wanted → AreLive p live → FitsBoth p wanted of kept frames h →
    (n x : ℕ) → FramesName live frames n ⊎ MaybeNames kept n → Below h n x → (o : Object) × (get h x ≡ Some o)

-- what the top frame's stack names
abbrev pub TopStacksAreThere : Type 0
TopStacksAreThere = (p : Program) (wanted : Wanted) (of : Classes) (kept : Option ℕ) (top : Activation) (frames : List Activation) (h : Objects) → IsChecked p wanted → FitsBoth p wanted of kept (top ∷ frames) h → AreThere h top.stack
