-- Where the tasks are: ready, lent to a worker, or parked where they wait.
use Rattle.std.specs.Prelude.{◌≡◌, ℕ, ◌<◌, ◌≤◌, Bool, true, false, ◌&&◌, not, cond, ◌==◌, List, Option, Some, None, count_by}
use Rattle.kilim_run_model.specs.State.{same_box}
use Rattle.kilim_run_model.specs.declared.waits.Waits.{Waits}
use Rattle.kilim_run_model.specs.declared.waits.Waits.TheVariants as wait

abbrev pub same_wait : Waits → Waits → Bool
same_wait (wait.Take a) (wait.Take b) = same_box a b
same_wait (wait.Put a) (wait.Put b) = same_box a b
same_wait (wait.Take a) (wait.Put b) = false
same_wait (wait.Put a) (wait.Take b) = false

pub data Spot : Type 0 where
  Ready : Spot
  Lent : Spot
  Parked : (waits : Waits) → Spot

pub record Place : Type 0 where
  pub spot : Spot
  pub task : ℕ

abbrev pub is_task : ℕ → Place → Bool
is_task t p = p.task == t

abbrev pub is_out_spot : Spot → Bool
is_out_spot Ready = true
is_out_spot Lent = true
is_out_spot (Parked w) = false

-- ready or lent
abbrev pub is_out : Place → Bool
is_out p = is_out_spot p.spot

abbrev pub is_parked_spot : Waits → Spot → Bool
is_parked_spot w (Parked v) = same_wait w v
is_parked_spot w s = false

abbrev pub is_parked_at : Waits → Place → Bool
is_parked_at w p = is_parked_spot w p.spot

-- what a task may have to wait for where it stands is this
abbrev pub is_at : Option Waits → Waits → Bool
is_at None w = false
is_at (Some v) w = same_wait w v

-- parked where it doesn't stand
abbrev pub is_astray_in : Spot → Option Waits → Bool
is_astray_in (Parked w) stands = not (is_at stands w)
is_astray_in s stands = false

abbrev pub is_astray : (ℕ → Option Waits) → Place → Bool
is_astray stands p = is_astray_in p.spot (stands p.task)

-- ready or lent, and where it may have to wait for this
abbrev pub is_coming : (ℕ → Option Waits) → Waits → Place → Bool
is_coming stands w p = is_out p && is_at (stands p.task) w

-- `alive` tells which tasks haven't ended, `stands` what a task's thread may have to wait for, `may` for what a task can wait at all, and
-- `due` how many of those that wait for it are to be on their way: one for each message, or for each place that is free.
pub record Stood (alive : ℕ → Bool) (stands : ℕ → Option Waits) (may : Waits → Bool) (due : Waits → ℕ) (places : List Place) : Type 0 where
  -- each task that hasn't ended is in exactly one place, and each other one in none
  pub placed : (t : ℕ) → count_by (is_task t) places ≡ cond (alive t) 1 0
  -- what is parked stands where it is parked
  pub astray : count_by (is_astray stands) places ≡ 0
  -- nobody is parked where a task can't wait
  pub held : (w : Waits) → 0 < count_by (is_parked_at w) places → may w ≡ true
  -- where tasks are parked, at least as many as are due there are ready or lent, and stand there
  pub served : (w : Waits) → 0 < count_by (is_parked_at w) places → due w ≤ count_by (is_coming stands w) places
