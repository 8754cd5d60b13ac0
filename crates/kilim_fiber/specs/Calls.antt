-- What the calls of a fiber do.
use Rattle.std.specs.Prelude.{◌≤◌, ◌+◌, ◌^◌, nat_le, if◌then◌else◌, ◌≡◌, ◌<◌, ◌++◌, ◌∷◌, [], ℕ, Bool, true, false, List, Some, None}
use Rattle.std.specs.List.{AllByRecursion}
use Rattle.kilim_program.specs.Program.{Program}
use Rattle.kilim_program.specs.declared.names.BoxName.{BoxName}
use Rattle.kilim_program.specs.declared.names.ClassId.{ClassId}
use Rattle.kilim_program.specs.declared.value.Value.TheVariants.{Null}
use Rattle.kilim_run_state.specs.declared.cause.EndCause.TheVariants as cause
use Rattle.kilim_run_state.specs.declared.run.Limits.{Limits}
use Rattle.kilim_run_state.specs.declared.value.Object.{Object}
use Rattle.kilim_run_state.specs.declared.value.Token.{Token}
use Rattle.kilim_run_journal.specs.declared.entry.Act.TheVariants as act
use Rattle.kilim_run_model.specs.Course.{plain}
use Rattle.kilim_run_model.specs.declared.waits.Waits.{Waits}
use Rattle.kilim_run_model.specs.declared.waits.Waits.TheVariants as wait
use Rattle.kilim_run_model.specs.declared.deed.Beginning.{Beginning}
use Rattle.kilim_run_model.specs.declared.deed.Beginning.TheVariants.{Begun}
use Rattle.kilim_run_model.specs.declared.deed.Deed.{Deed}
use Rattle.kilim_run_board.specs.fibers.Wishes.{ToPut, ToPutWait, ToBound, ToTake, ToProbe, ToStart, ToPrint}
use Rattle.kilim_run_board.specs.declared.fibers.Answer.{Answer}
use Rattle.kilim_run_board.specs.declared.fibers.Answer.TheVariants as answer
use Rattle.kilim_run_board.specs.declared.fibers.Wants.{Wants}
use Rattle.kilim_run_board.specs.declared.fibers.Wants.TheVariants as wants
use Rattle.kilim_run_trees.specs.Shaping.{Suits}
use Rattle.kilim_fiber_laws.specs.woven_kin.history.History.{took}
use Rattle.kilim_fiber_laws.specs.woven_kin.Standing.{Standing}
use Rattle.kilim_fiber_laws.specs.woven_kin.Nexts.{counted, paused_at, taken_at, waiting_at, with_result}
use Rattle.kilim_fiber_body.specs.Answers.{HasFound, HasTaken}
use Rattle.kilim_fiber_body.specs.Begins.{BodyBegins}
use Rattle.kilim_fiber_body.specs.Body.{standing_at, behind_at, HasFrames, RoomyIn}
use Rattle.kilim_fiber_body.specs.declared.body.Body.{Body}
use Rattle.kilim_fiber_body.specs.declared.body.Came.{Came}
use Rattle.kilim_fiber_body.specs.declared.body.Came.TheVariants as came
use Rattle.kilim_fiber.specs.Past.{deeds_of}
use Rattle.kilim_fiber.specs.Fiber.{course_of, wished}
use Rattle.kilim_fiber.specs.declared.fiber.Asked.{Asked}
use Rattle.kilim_fiber.specs.declared.fiber.Asked.TheVariants as asked
use Rattle.kilim_fiber.specs.declared.fiber.Fiber.{Fiber}

-- a fiber that has done nothing yet
pub record IsNew (c : ClassId) (b : Beginning) (o : Body) (f : Fiber) : Type 0 where
  pub task : f.task ≡ 0
  pub main : f.main ≡ c
  pub beginning : f.beginning.value ≡ b
  pub past : deeds_of f.past.value ≡ []
  pub body : f.body ≡ o
  pub idle : f.idle ≡ o.idle
  pub refused : f.refused ≡ None
  pub rests : f.rests ≡ true

-- one that begins on the tree of a task object
pub record IsBegun (W : Program) (main : ClassId) (tree : List Object) (shape : List Token) (f : Fiber) : Type 0 where
  pub body : Body
  pub begins : BodyBegins W tree body
  pub new : IsNew main (Begun shape) body f

-- what is wanted by what a body came to, and asked then
abbrev pub WantsBy : Program → ClassId → Came → Wants Fiber → Asked → Type 0
WantsBy W main came.On w a = ⊥
WantsBy W main (came.Puts box tree shape) w a = (w ≡ wants.Put box tree shape) × (wished a ≡ Some (ToPut box shape))
WantsBy W main (came.PutWaits box tree shape) w a = (w ≡ wants.PutWait box tree shape) × (wished a ≡ Some (ToPutWait box shape))
WantsBy W main (came.Bounds box most) w a = (w ≡ wants.Bound box most) × (wished a ≡ Some (ToBound box most))
WantsBy W main (came.Takes box) w a = (w ≡ wants.Take box) × (wished a ≡ Some (ToTake box))
WantsBy W main (came.Probes box) w a = (w ≡ wants.Probe box) × (wished a ≡ Some (ToProbe box))
WantsBy W main (came.Starts tree shape) w a = (new : Fiber) × (w ≡ wants.Start new shape) × (wished a ≡ Some (ToStart shape)) × IsBegun W main tree shape new
WantsBy W main (came.Prints shape) w a = (w ≡ wants.Print shape) × (wished a ≡ Some (ToPrint shape))
WantsBy W main came.Rests w a = w ≡ wants.Rest None
WantsBy W main (came.Ends why) w a = w ≡ wants.End why

-- a deed more, and what it doesn't touch
pub record Noted (old new : Fiber) (d : Deed) : Type 0 where
  pub task : new.task ≡ old.task
  pub main : new.main ≡ old.main
  pub beginning : new.beginning.value ≡ old.beginning.value
  pub past : deeds_of new.past.value ≡ deeds_of old.past.value ++ d ∷ []
  pub refused : new.refused ≡ old.refused
  pub idle : new.idle ≡ old.idle

-- one instruction further, where the body stands so then
pub record Passed (W : Program) (old new : Fiber) (d : Deed) (s : Standing) : Type 0 where
  pub noted : Noted old new d
  pub stands : standing_at 0 new.body ≡ s
  pub roomy : RoomyIn W new.body.frames

-- a message of that shape has come to a `get`, or to one that looked for it
pub record Taken (p W : Program) (old new : Fiber) (box : BoxName) (tree : List Object) (number : ℕ) : Type 0 where
  pub shape : List Token
  pub noted : Noted old new (took box number shape)
  pub body : HasTaken p W old.body new.body tree shape

pub record Found (p W : Program) (old new : Fiber) (box : BoxName) (tree : List Object) (number : ℕ) : Type 0 where
  pub shape : List Token
  pub noted : Noted old new (took box number shape)
  pub body : HasFound p W old.body new.body tree shape

-- a take was answered nothing
pub record Refused (W : Program) (old new : Fiber) (box : BoxName) : Type 0 where
  pub task : new.task ≡ old.task
  pub main : new.main ≡ old.main
  pub idle : new.idle ≡ old.idle
  pub course : course_of new ≡ course_of old
  pub stands : standing_at 0 new.body ≡ paused_at box (behind_at 0 old.body)
  pub roomy : RoomyIn W new.body.frames
  pub refused : new.refused ≡ Some (wait.Take box)

-- a put was answered that its mailbox is full
pub record Waiting (W : Program) (old new : Fiber) (box : BoxName) (tree : List Object) (shape : List Token) : Type 0 where
  pub task : new.task ≡ old.task
  pub main : new.main ≡ old.main
  pub idle : new.idle ≡ old.idle
  pub course : course_of new ≡ course_of old
  pub stands : standing_at 0 new.body ≡ waiting_at box (behind_at 0 (record old.body { apart = Some (record { tree = tree; shape = shape }) }))
  pub roomy : RoomyIn W new.body.frames
  pub refused : new.refused ≡ Some (wait.Put box)

-- what comes of an answer to what was asked; other answers don't come
abbrev pub Answered : Program → Program → Asked → Answer → Fiber → Fiber → Type 0
Answered p W (asked.Put box shape) (answer.Sent n) old new = Passed W old new (plain (act.Put box n shape.value)) (counted (behind_at 0 old.body))
Answered p W (asked.PutWait box shape) (answer.Sent n) old new = Passed W old new (plain (act.Put box n shape.value)) (taken_at (behind_at 0 old.body))
Answered p W (asked.PutWait box shape) (answer.Full tree same) old new = Waiting W old new box tree same
Answered p W (asked.Bound box most) answer.Done old new = Passed W old new (plain (act.Bound box most)) (counted (behind_at 0 old.body))
Answered p W (asked.Take box) (answer.Message tree n) old new = Taken p W old new box tree n
Answered p W (asked.Take box) answer.Nothing old new = Refused W old new box
Answered p W (asked.Probe box) (answer.Message tree n) old new = Found p W old new box tree n
Answered p W (asked.Probe box) answer.Nothing old new = Passed W old new (plain (act.Empty box)) (with_result (Some Null) (counted (behind_at 0 old.body)))
Answered p W (asked.Start shape) (answer.Started n) old new = Passed W old new (plain (act.Start n shape.value)) (counted (behind_at 0 old.body))
Answered p W (asked.Print shape) answer.Done old new = Passed W old new (plain (act.Print shape.value)) (counted (behind_at 0 old.body))
Answered p W a b old new = ⊥

-- such an answer comes where that was asked
abbrev pub IsAnswerTo : Asked → Answer → Type 0
IsAnswerTo (asked.Put box shape) (answer.Sent n) = Unit {0}
IsAnswerTo (asked.PutWait box shape) (answer.Sent n) = Unit {0}
IsAnswerTo (asked.PutWait box shape) (answer.Full tree same) = Unit {0}
IsAnswerTo (asked.Bound box most) answer.Done = Unit {0}
IsAnswerTo (asked.Take box) (answer.Message tree n) = Unit {0}
IsAnswerTo (asked.Take box) answer.Nothing = Unit {0}
IsAnswerTo (asked.Probe box) (answer.Message tree n) = Unit {0}
IsAnswerTo (asked.Probe box) answer.Nothing = Unit {0}
IsAnswerTo (asked.Start shape) (answer.Started n) = Unit {0}
IsAnswerTo (asked.Print shape) answer.Done = Unit {0}
IsAnswerTo a b = ⊥

-- a tree that comes has a shape
abbrev pub AnswerSuits : Program → Answer → Type 0
AnswerSuits p (answer.Message tree n) = AllByRecursion (Suits p) tree
AnswerSuits p a = Unit {0}

-- the answer may be a value
abbrev pub takes_value : Asked → Bool
takes_value (asked.Take box) = true
takes_value (asked.Probe box) = true
takes_value a = false

-- ---- resume

-- it asks something
abbrev pub asks_by : Came → Bool
asks_by came.Rests = false
asks_by (came.Ends why) = false
asks_by c = true

abbrev pub is_rest : Came → Bool
is_rest came.Rests = true
is_rest c = false

-- it has frames, and an instruction left
pub record MayAsk (limits : Limits) (f : Fiber) : Type 0 where
  pub frames : HasFrames f.body.frames
  pub few : f.body.count < limits.steps
  pub room : f.body.count + 1 < 2 ^ 64

pub record EndsIdle (limits : Limits) (old new : Fiber) (w : Wants Fiber) : Type 0 where
  pub ends : w ≡ wants.End (if nat_le limits.steps 0 then cause.Spent else cause.Done)
  pub same : new ≡ record old { rests = false }
  pub none : old.refused ≡ None
  pub most : old.body.count ≤ limits.steps

pub record RestsAt (v : Waits) (c : Came) (old new : Fiber) (w : Wants Fiber) : Type 0 where
  pub rests : w ≡ wants.Rest (Some v)
  pub came-is : c ≡ came.Rests
  pub same : new ≡ record old { refused = None; rests = true }

pub record HasWanted (W : Program) (limits : Limits) (before : ℕ) (c : Came) (old new : Fiber) (w : Wants Fiber) : Type 0 where
  pub asked : Asked
  pub by : WantsBy W old.main c w asked
  pub same : new ≡ record old { asked = asked; rests = is_rest c }
  pub rested : is_rest c ≡ true → before < old.body.count
  pub may : asks_by c ≡ true → MayAsk limits old
