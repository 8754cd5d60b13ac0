-- States of a run of a verified program over one heap.
use Rattle.std.specs.Prelude.{◌≡◌, ℕ, true, Some, slice_get}
use Rattle.kilim_program.specs.declared.class.Form.TheVariants.{Plain}
use Rattle.kilim_program.specs.Keeps.{Keeps}
use Rattle.kilim_type_spec.specs.Typed.{IsWellTyped}
use Rattle.kilim_type_sound.specs.Fits.{Typing, Wanted}
use Rattle.kilim_run_journal.specs.declared.entry.Act.{Act}
use Rattle.kilim_run_model.specs.State.{Setting, Thread, State, first_state, is_fit, noted}
use Rattle.kilim_run_model.specs.Lone.{Lone}
use Rattle.kilim_run_model.specs.Turn.{lone_of, moved, with_lone}
use Rattle.kilim_run_model.specs.Course.{Quiet}
use Rattle.kilim_isolation_laws.specs.typed_threads.fine.Typed.{IsVerified}
use Rattle.kilim_replay_laws.specs.shared.Shared.{IsTypedState, Serves}

-- the program is verified, its main class is fit, and the state fits the frames of verification
pub record IsTypedRun (set : Setting) (s : State) : Type 0 where
  pub typing : Typing
  pub live : Wanted
  pub verified : IsVerified set typing live
  pub main : is_fit set ≡ true
  pub typed : IsTypedState set typing live verified s

-- wherever its moves without an action lead, a thread isn't stuck
abbrev pub CanGo : Setting → ℕ → Lone → Type 0
CanGo set t l = (m : Lone) → Quiet set t l m → Serves set m

-- A run of a well-typed program begins so, each move of each thread keeps it, and each thread may go on by itself.
pub record TypedRunsGo : Type 0 where
  pub first : (set : Setting) → Keeps set.program → set.program.form ≡ Plain → IsWellTyped set.program → is_fit set ≡ true → IsTypedRun set (first_state set)
  pub moves : (set : Setting) (s : State) (t : ℕ) → IsTypedRun set s → IsTypedRun set (moved set s t).state
  pub noted : (set : Setting) (s : State) (t : ℕ) (act : Act) → IsTypedRun set s → IsTypedRun set (noted s t act)
  pub along : (set : Setting) (s : State) (t : ℕ) (th : Thread) (l : Lone) → IsTypedRun set s → slice_get s.threads t ≡ Some th → Quiet set t (lone_of s t th) l → IsTypedRun set (with_lone s t l)
  pub goes : (set : Setting) (s : State) (t : ℕ) (th : Thread) → IsTypedRun set s → slice_get s.threads t ≡ Some th → CanGo set t (lone_of s t th)
