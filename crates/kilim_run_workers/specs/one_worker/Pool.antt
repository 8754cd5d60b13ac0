-- The runner with one worker: what holds between its steps.
use Rattle.std.specs.List.{sum_by, AllByRecursion}
use Rattle.kilim_run_model.specs.Turn.{task_limit}
use Rattle.kilim_run_board.specs.declared.waiting.parked.Waiter.{Waiter}
use Rattle.std.specs.Prelude.{◌≡◌, ◌+◌, ◌-◌, ◌*◌, ◌<◌, ◌≤◌, ℕ, true, false, ◌∷◌, [], Option, Some, None}
use Rattle.kilim_program.specs.declared.names.ClassId.{ClassId}
use Rattle.kilim_run_state.specs.declared.run.Limits.{Limits}
use Rattle.kilim_run_model.specs.State.{Setting}
use Rattle.kilim_run_model.specs.declared.waits.Waits.{Waits}
use Rattle.kilim_run_board.specs.fibers.Fibers.{IsOfRun, StandsFor}
use Rattle.kilim_run_board.specs.declared.board.Board as kept
use Rattle.kilim_run_board.specs.Board.{Board, BoardStands}
use Rattle.kilim_run_board.specs.waiting.Mailboxes.{mail_of, has_to_wait}
use Rattle.kilim_run_board.specs.Seen.{seen, GiveAnswers, IsRoomy, CourseAt, RestsAs}
use Rattle.kilim_run_workers.specs.declared.one_worker.Next.{Next}
use Rattle.kilim_run_workers.specs.declared.one_worker.Next.TheVariants as next
use Rattle.kilim_run_model.specs.Lone.{Lone}
use Rattle.kilim_run_model.specs.Course.{Course}

-- a setting of this run
pub record IsOf {C : Type 0} (serves : Setting → C → Type 0) (code : C) (main : ClassId) (limits : Limits) (set : Setting) : Type 0 where
  pub run : IsOfRun serves code main set
  pub is-limits : set.limits ≡ limits

module _ {F : Type 0} (task : F → ℕ) (course : F → Course) (holds : Setting → F → Lone → Type 0) (Of : Setting → Type 0) where
  -- the fiber is lent to the one seat, and stands for its course
  pub record IsLending (b : kept.Board F) (f : F) : Type 0 where
    pub roomy : IsRoomy b
    pub cells : b.cells.items ≡ Some (task f) ∷ []
    pub running : b.stopped ≡ false
    pub stands : (set : Setting) → Of set → BoardStands task course holds set (seen b) × StandsFor task course holds set f × CourseAt (seen b) (task f) (course f)

  -- no fiber is lent
  pub record IsResting (b : kept.Board F) : Type 0 where
    pub roomy : IsRoomy b
    pub cells : b.cells.items ≡ None ∷ []
    pub running : b.stopped ≡ false
    pub stands : (set : Setting) → Of set → BoardStands task course holds set (seen b)

  -- the lent fiber has come to this
  abbrev pub NextIs : kept.Board F → F → Next → Type 0
  NextIs b f next.On = IsLending b f
  NextIs b f next.Over = IsResting b
  NextIs b f (next.Rests waits) = IsLending b f × ((set : Setting) → Of set → RestsAs task course holds set f waits)

-- ---- what is left to do

module _ {F : Type 0} (count : F → ℕ) (n : ℕ) where
  -- three for each instruction that the fiber may still count
  abbrev pub weight : F → ℕ
  weight f = 3 * (n - count f)

  abbrev pub ready_weight : F → ℕ
  ready_weight f = weight f + 2

  abbrev pub parked_weight : Waiter F → ℕ
  parked_weight w = weight w.fiber

  -- a ready fiber has two more, a parked one none, and a task that can still be started as much as a new ready one
  abbrev pub left : Board F → ℕ
  left b = sum_by ready_weight b.ready + sum_by parked_weight b.parked + (task_limit - b.tasks) * (3 * n + 2)

module _ {F : Type 0} (refused : F → Option Waits) where
  abbrev pub IsCalmFiber : F → Type 0
  IsCalmFiber f = refused f ≡ None

  abbrev pub IsCalmWaiter : Waiter F → Type 0
  IsCalmWaiter w = refused w.fiber ≡ None

  pub record IsCalm (b : Board F) : Type 0 where
    pub ready : AllByRecursion IsCalmFiber b.ready
    pub parked : AllByRecursion IsCalmWaiter b.parked

  -- a fiber that was just refused has to wait
  abbrev pub WaitsAt : kept.Board F → F → Type 0
  WaitsAt b f = (v : Waits) → refused f ≡ Some v → has_to_wait (mail_of b.mailboxes) v ≡ true

abbrev pub one_if_none : Option Waits → ℕ
one_if_none None = 1
one_if_none (Some v) = 0

module _ {F : Type 0} (count : F → ℕ) (refused : F → Option Waits) (n : ℕ) where
  -- with a fiber that is lent
  abbrev pub todo : kept.Board F → F → ℕ
  todo b f = left count n (seen b) + weight count n f + one_if_none (refused f)

  -- a fiber that rests is still to be given back
  abbrev pub Falls : ℕ → kept.Board F → F → Next → Type 0
  Falls before b' f next.On = IsCalm refused (seen b') × WaitsAt refused b' f × (todo b' f < before)
  Falls before b' f next.Over = IsCalm refused (seen b') × (left count n (seen b') ≤ before)
  Falls before b' f (next.Rests waits) = (b'' : Board F) → GiveAnswers (seen b') 0 b'' f waits → IsCalm refused b'' × (left count n b'' ≤ before)
