-- When a fiber over records stands for the thread of its course.
use Rattle.std.specs.Prelude.{◌≡◌, ◌<◌, ◌≤◌, ◌+◌, ◌^◌, ℕ, nat_le, if◌then◌else◌, Bool, true, false, List, Option, Some, None}
use Rattle.kilim_program.specs.Program.{Program}
use Rattle.kilim_program.specs.declared.value.Value.TheVariants.{Null}
use Rattle.kilim_run_state.specs.declared.cause.EndCause.{EndCause}
use Rattle.kilim_run_state.specs.declared.cause.EndCause.TheVariants as cause
use Rattle.kilim_run_journal.specs.declared.entry.Act.TheVariants as act
use Rattle.kilim_run_model.specs.State.{Setting}
use Rattle.kilim_run_model.specs.Lone.{Lone}
use Rattle.kilim_run_model.specs.Lone as thread
use Rattle.kilim_run_model.specs.Course.{Course, plain, next_action, stands_at}
use Rattle.kilim_run_model.specs.declared.waits.Waits.{Waits}
use Rattle.kilim_run_model.specs.declared.waits.Waits.TheVariants as wait
use Rattle.kilim_run_board.specs.fibers.Wishes.{IsMessage, Wish, ToPut, ToPutWait, ToBound, ToTake, ToProbe, ToStart, ToPrint, wish_of}
use Rattle.kilim_fiber_laws.specs.woven_kin.Nexts.{counted, paused_at, taken_at, waiting_at, with_result}
use Rattle.kilim_fiber_body.specs.Body.{standing_at, behind_at, RoomyIn, RoomIn, HasFrames}
use Rattle.kilim_fiber_body.specs.declared.body.Apart.{Apart}
use Rattle.kilim_fiber_body.specs.declared.body.Body.{Body}
use Rattle.kilim_run_state.specs.declared.value.Object.{Object}
use Rattle.kilim_fiber_spec.specs.fiber_kin.Acts.{IsSound}
use Rattle.kilim_run_state.specs.Trees.{OfMessage, OfTask}
use Rattle.kilim_fiber_body.specs.declared.body.Came.{Came}
use Rattle.kilim_fiber_body.specs.declared.body.Came.TheVariants as came
use Rattle.kilim_fiber_body.specs.declared.code.Code.{Code}
use Rattle.kilim_fiber_laws.specs.Served.{CanServe}
use Rattle.kilim_fiber_laws.specs.Fibers.{Holds}
use Rattle.kilim_fiber_laws.specs.Nexts.{Behind, CanReceive}
use Rattle.kilim_fiber.specs.Past.{deeds_of}
use Rattle.kilim_fiber.specs.declared.fiber.Asked.{Asked}
use Rattle.kilim_fiber.specs.declared.fiber.Asked.TheVariants as asked
use Rattle.kilim_fiber.specs.declared.fiber.Fiber.{Fiber}

abbrev pub task_of : Fiber → ℕ
task_of f = f.task

abbrev pub course_of : Fiber → Course
course_of f = record { beginning = f.beginning.value; deeds = deeds_of f.past.value }

-- what it asked
abbrev pub wished : Asked → Option Wish
wished asked.Nothing = None
wished (asked.Put box shape) = Some (ToPut box shape.value)
wished (asked.PutWait box shape) = Some (ToPutWait box shape.value)
wished (asked.Bound box most) = Some (ToBound box most)
wished (asked.Take box) = Some (ToTake box)
wished (asked.Probe box) = Some (ToProbe box)
wished (asked.Start shape) = Some (ToStart shape.value)
wished (asked.Print shape) = Some (ToPrint shape.value)

-- a task whose `execute` is built in is done at once, or spent where it may do no instruction
abbrev pub idle_cause : Setting → EndCause
idle_cause set = if nat_le set.limits.steps 0 then cause.Spent else cause.Done

-- The thread ends next in that way.
abbrev pub EndsNext : Setting → ℕ → Lone → EndCause → Type 0
EndsNext set t last why = (after : Lone) × (next_action set t last ≡ thread.Ends why after)

-- A body that isn't idle is what the woven machine comes to along the course; one that is idle has nothing to do.
abbrev pub StandsAs : Program → List (List Bool) → Setting → ℕ → Course → Lone → Bool → Body → Type 0
StandsAs W marks set t c last true b = EndsNext set t last (idle_cause set)
StandsAs W marks set t c last false b = Holds set W marks t c (standing_at 0 b)

-- what waits to be put is a message
abbrev pub IsApart : Program → Option Apart → Type 0
IsApart p None = Unit {0}
IsApart p (Some a) = IsMessage p a.tree a.shape

pub record HoldsFiber (W : Program) (marks : List (List Bool)) (set : Setting) (f : Fiber) (last : Lone) : Type 0 where
  pub body : StandsAs W marks set f.task (course_of f) last f.idle f.body
  -- where it counted nothing yet, whatever its task's number is
  pub fresh : f.body.count ≡ 0 → (t : ℕ) → StandsAs W marks set t (course_of f) last f.idle f.body
  pub roomy : RoomyIn W f.body.frames
  pub most : f.body.count ≤ set.limits.steps
  pub is-main : set.main ≡ f.main
  pub apart : IsApart set.program f.body.apart
  -- where it was just refused, it stands where it may have to wait for that, and not at its first instruction
  pub refused : (v : Waits) → f.refused ≡ Some v → (0 < f.body.count) × (stands_at set f.task last ≡ Some v)

-- Behind each answer that fits its wish it is a fiber of the further course. Where it may have to wait, it has done an instruction.
abbrev pub CanGoOn : Program → List (List Bool) → Setting → ℕ → Course → Lone → Body → Option Wish → Type 0
CanGoOn W marks set t c last b (Some (ToPut box shape)) = (n : ℕ) → Behind set W marks t c (plain (act.Put box n shape)) (counted (behind_at 0 b))
CanGoOn W marks set t c last b (Some (ToPutWait box shape)) =
    ((tree : List Object) → Holds set W marks t c (waiting_at box (behind_at 0 (record b { apart = Some (record { tree = tree; shape = shape }) }))))
    × ((n : ℕ) → Behind set W marks t c (plain (act.Put box n shape)) (taken_at (behind_at 0 b))) × (stands_at set t last ≡ Some (wait.Put box)) × (0 < b.count)
CanGoOn W marks set t c last b (Some (ToBound box most)) = Behind set W marks t c (plain (act.Bound box most)) (counted (behind_at 0 b))
CanGoOn W marks set t c last b (Some (ToTake box)) =
    Holds set W marks t c (paused_at box (behind_at 0 b)) × CanReceive set W marks t c box (taken_at (behind_at 0 b)) × (stands_at set t last ≡ Some (wait.Take box)) × RoomIn W b.frames × (0 < b.count)
CanGoOn W marks set t c last b (Some (ToProbe box)) =
    Behind set W marks t c (plain (act.Empty box)) (with_result (Some Null) (counted (behind_at 0 b))) × CanReceive set W marks t c box (counted (behind_at 0 b)) × RoomIn W b.frames
CanGoOn W marks set t c last b (Some (ToStart shape)) = (n : ℕ) → Behind set W marks t c (plain (act.Start n shape)) (counted (behind_at 0 b))
CanGoOn W marks set t c last b (Some (ToPrint shape)) = Behind set W marks t c (plain (act.Print shape)) (counted (behind_at 0 b))
CanGoOn W marks set t c last b wish = Unit {0}

pub record AskedOf (W : Program) (marks : List (List Bool)) (set : Setting) (f : Fiber) (last : Lone) : Type 0 where
  pub goes : CanGoOn W marks set f.task (course_of f) last f.body (wished f.asked)
  pub wish : wish_of (next_action set f.task last) ≡ wished f.asked
  pub busy : f.idle ≡ false
  pub frames : HasFrames f.body.frames
  pub roomy : RoomyIn W f.body.frames
  pub few : f.body.count < set.limits.steps
  pub room : f.body.count + 1 < 2 ^ 64
  pub is-main : set.main ≡ f.main
  pub apart : IsApart set.program f.body.apart

-- ---- the code

-- The code is that of the setting's program and of a woven form of it, which serves.
pub record ServesCode (set : Setting) (code : Code) : Type 0 where
  pub program : set.program ≡ code.plain
  pub can : CanServe set code.program code.counted

-- ---- what a body came to, against the thread of the course

abbrev pub CameNext : Program → List (List Bool) → Setting → ℕ → Course → Lone → Body → Came → Type 0
CameNext W marks set t c last b came.On = ⊥
CameNext W marks set t c last b (came.Puts box tree shape) = (wish_of (next_action set t last) ≡ Some (ToPut box shape)) × CanGoOn W marks set t c last b (Some (ToPut box shape)) × IsSound set.program OfMessage tree shape
CameNext W marks set t c last b (came.PutWaits box tree shape) = (wish_of (next_action set t last) ≡ Some (ToPutWait box shape)) × CanGoOn W marks set t c last b (Some (ToPutWait box shape)) × IsSound set.program OfMessage tree shape
CameNext W marks set t c last b (came.Bounds box most) = (wish_of (next_action set t last) ≡ Some (ToBound box most)) × CanGoOn W marks set t c last b (Some (ToBound box most))
CameNext W marks set t c last b (came.Takes box) = (wish_of (next_action set t last) ≡ Some (ToTake box)) × CanGoOn W marks set t c last b (Some (ToTake box))
CameNext W marks set t c last b (came.Probes box) = (wish_of (next_action set t last) ≡ Some (ToProbe box)) × CanGoOn W marks set t c last b (Some (ToProbe box))
CameNext W marks set t c last b (came.Starts tree shape) = (wish_of (next_action set t last) ≡ Some (ToStart shape)) × CanGoOn W marks set t c last b (Some (ToStart shape)) × IsSound set.program OfTask tree shape
CameNext W marks set t c last b (came.Prints shape) = (wish_of (next_action set t last) ≡ Some (ToPrint shape)) × CanGoOn W marks set t c last b (Some (ToPrint shape))
CameNext W marks set t c last b came.Rests = Holds set W marks t c (standing_at 0 b)
CameNext W marks set t c last b (came.Ends why) = EndsNext set t last why

-- what waits to be put then; nothing is said where it ends
abbrev pub CameApart : Program → Body → Came → Type 0
CameApart p b (came.Ends why) = Unit {0}
CameApart p b c = IsApart p b.apart

pub record CameTo (W : Program) (marks : List (List Bool)) (set : Setting) (t : ℕ) (c : Course) (last : Lone) (b : Body) (a : Came) : Type 0 where
  pub next : CameNext W marks set t c last b a
  pub apart : CameApart set.program b a
