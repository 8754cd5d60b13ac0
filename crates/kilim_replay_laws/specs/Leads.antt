-- A thread's moves without an action, seen as moves of a state over one heap.
use Rattle.std.specs.Prelude.{◌≡◌, ℕ, zero, suc, Some, slice_get}
use Rattle.kilim_run_model.specs.State.{Setting, Thread, State}
use Rattle.kilim_run_model.specs.Lone.{Lone, next_move}
use Rattle.kilim_run_model.specs.Turn.{lone_of, with_lone, moved, moved_by}
use Rattle.kilim_run_model.specs.Runs.{acted_within, before_action}
use Rattle.kilim_run_model.specs.Course.{Quiet}

-- so many more
abbrev pub more : ℕ → ℕ → ℕ
more zero n = n
more (suc m) n = suc (more m n)

-- The state in which the thread stands further leads where the state leads, with so many moves less.
pub record Leads (set : Setting) (s : State) (t : ℕ) (l : Lone) : Type 0 where
  pub moves : ℕ
  pub acts : (n : ℕ) → acted_within set (more moves n) s t ≡ acted_within set n (with_lone s t l) t
  pub before : (n : ℕ) → before_action set (more moves n) s t ≡ before_action set n (with_lone s t l) t
  -- and its next move there is what the thread does next
  pub next : moved set (with_lone s t l) t ≡ moved_by set (with_lone s t l) t (next_move set t l)
  pub stands : lone_of (with_lone s t l) t l.thread ≡ l

abbrev pub ThreadsLead : Type 0
ThreadsLead = (set : Setting) (s : State) (t : ℕ) (th : Thread) (l : Lone) → slice_get s.threads t ≡ Some th → Quiet set t (lone_of s t th) l → Leads set s t l
