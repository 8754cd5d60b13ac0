-- A run, and what its fibers and seats are.
use Rattle.std.specs.Prelude.{◌≡◌, ℕ, List, [], Option, Some, None}
use Rattle.kilim_program.specs.declared.names.ClassId.{ClassId}
use Rattle.kilim_run_state.specs.declared.run.Limits.{Limits}
use Rattle.kilim_run_model.specs.State.{Setting}
use Rattle.kilim_run_model.specs.declared.waits.Waits.{Waits}
use Rattle.kilim_run_board.specs.fibers.Fibers.{Fits, course_after, StandsFor}
use Rattle.kilim_run_board.specs.declared.fibers.Wants.{Wants}
use Rattle.kilim_run_board.specs.declared.board.Lent.{Lent}
use Rattle.kilim_run_board.specs.declared.board.Lent.TheVariants as lent
use Rattle.kilim_run_board.specs.declared.board.Acted.{Acted}
use Rattle.kilim_run_board.specs.declared.board.Acted.TheVariants as acted
use Rattle.kilim_run_board.specs.Seen.{RestsAs, ActMeets}
use Rattle.kilim_run_workers.specs.Codes.{lent_numbers}
use Rattle.kilim_run_workers.specs.declared.one_worker.Next.{Next}
use Rattle.kilim_run_workers.specs.declared.one_worker.Next.TheVariants as next
use Rattle.kilim_run_model.specs.Lone.{Lone}
use Rattle.kilim_run_model.specs.Course.{Course}
use Rattle.kilim_run_model.specs.declared.deed.Deed.{Deed}
use Rattle.kilim_run_board.specs.fibers.Wishes.{Wish, ToEnd}

module _ {F : Type 0} (task : F → ℕ) (course : F → Course) where
  -- the cell of a seat that the fiber is lent to
  abbrev pub fiber_numbers : F → List ℕ
  fiber_numbers f = lent_numbers (task f) (course f)

  module _ (holds : Setting → F → Lone → Type 0) (Of : Setting → Type 0) where
    -- in each setting of the run
    abbrev pub AllStand : F → Type 0
    AllStand f = (set : Setting) → Of set → StandsFor task course holds set f

    abbrev pub AllRest : F → Option Waits → Type 0
    AllRest f waits = (set : Setting) → Of set → RestsAs task course holds set f waits

    abbrev pub AllMeet : F → Wants F → Type 0
    AllMeet f w = (set : Setting) → Of set → ActMeets task course holds set (task f) (course f) w

    -- what a seat has when `lend` has answered
    abbrev pub IsTaken : List ℕ → Lent F → Type 0
    IsTaken cell (lent.Fiber f) = (cell ≡ fiber_numbers f) × AllStand f
    IsTaken cell l = cell ≡ []

    -- what a seat has when the fiber that is lent to it has come to this
    abbrev pub NextIs : List ℕ → F → Next → Type 0
    NextIs cell f next.On = (cell ≡ fiber_numbers f) × AllStand f
    NextIs cell f next.Over = cell ≡ []
    NextIs cell f (next.Rests waits) = (cell ≡ fiber_numbers f) × AllRest f waits

-- What a seat has after an act of the task t with the course c: that course with the deed that the answer makes, or
-- nothing where the task has ended.
abbrev pub ActedAs : (Setting → Type 0) → ℕ → Course → List ℕ → Option Wish → Acted → Type 0
ActedAs Of t c cell (Some (ToEnd why)) a = cell ≡ []
ActedAs Of t c cell (Some wish) (acted.Answer a) = (set : Setting) → Of set → (deed : Option Deed) × Fits set.program wish a deed × (cell ≡ lent_numbers t (course_after c deed))
ActedAs Of t c cell (Some wish) acted.OutOfTasks = cell ≡ []
ActedAs Of t c cell (Some wish) acted.OutOfRoom = cell ≡ []
ActedAs Of t c cell None a = ⊥

-- The code serves each setting of the run, and these are its limits.
abbrev pub RunsOn : {C : Type 0} → (Setting → C → Type 0) → (Setting → Type 0) → C → Limits → Type 0
RunsOn serves Of code limits = (set : Setting) → Of set → serves set code × (set.limits ≡ limits)
