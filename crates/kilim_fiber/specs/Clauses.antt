-- What `resume` and `answer` promise, as the board and the runner read it.
use Rattle.std.specs.Prelude.{◌≡◌, ◌≤◌, Option, None}
use Rattle.kilim_run_state.specs.declared.run.Limits.{Limits}
use Rattle.kilim_run_model.specs.State.{Setting}
use Rattle.kilim_run_model.specs.declared.deed.Deed.{Deed}
use Rattle.kilim_run_board.specs.fibers.Fibers.{CountsRightly, Resumed, RestsRightly, StandsFor, StartsAtNone, StartsFresh, course_after}
use Rattle.kilim_run_board.specs.fibers.Wishes.{Wish}
use Rattle.kilim_run_board.specs.declared.fibers.Wants.{Wants}
use Rattle.kilim_run_board.specs.declared.fibers.Wants.TheVariants as wants
use Rattle.kilim_fiber_body.specs.declared.code.Code.{Code}
use Rattle.kilim_fiber.specs.Fiber.{task_of, course_of, AskedOf, HoldsFiber, ServesCode}
use Rattle.kilim_fiber.specs.Records.{HasRested, KeepsEach}
use Rattle.kilim_fiber.specs.declared.fiber.Fiber.{Fiber}

-- It wants that. Its task and its course are the same.
pub record Resumes (code : Code) (limits : Limits) (old new : Fiber) (w : Wants Fiber) : Type 0 where
  pub task : task_of new ≡ task_of old
  pub course : course_of new ≡ course_of old
  pub wants : (set : Setting) → ServesCode set code → set.limits ≡ limits → StandsFor task_of course_of (HoldsFiber code.program code.counted) set old → Resumed task_of course_of (HoldsFiber code.program code.counted) (AskedOf code.program code.counted) set new w
  pub rest : RestsRightly new.rests old.refused old.body.count new.body.count w
  pub refused : new.refused ≡ None
  pub fresh : StartsFresh (λ f. f.rests) (λ f. f.refused) w
  pub none : StartsAtNone (λ f. f.body.count) w
  pub counted : old.body.count ≤ new.body.count
  pub bounded : new.body.count ≤ limits.steps

-- Where it rests it has no frame, and a record for each frame of the thread of its course, and then the leaf's.
abbrev pub RestsInRecords : Code → Limits → Fiber → Fiber → Wants Fiber → Type 0
RestsInRecords code limits old new (wants.Rest waits) =
    HasRested new × ((set : Setting) → ServesCode set code → set.limits ≡ limits → StandsFor task_of course_of (HoldsFiber code.program code.counted) set old → KeepsEach set new)
RestsInRecords code limits old new w = Unit {0}

-- It has gone on by that deed, if any.
abbrev pub Went : Code → Setting → Fiber → Wish → Option Deed → Fiber → Type 0
Went code set old wish deed new =
    (course_of new ≡ course_after (course_of old) deed) × StandsFor task_of course_of (HoldsFiber code.program code.counted) set new × CountsRightly wish old.body.count new.body.count new.refused deed × (new.body.count ≤ set.limits.steps)
