-- What the calls of a fiber answer. The words take the fiber's meaning: its task, its course, and how its heap and frames are
-- those of a thread (`holds`, and `asked` right before an action).
use Rattle.std.specs.Prelude.{◌≡◌, ℕ, ◌<◌, Bool, true, List, [], Option, Some, None}
use Rattle.kilim_program.specs.Program.{Program}
use Rattle.kilim_program.specs.declared.names.ClassId.{ClassId}
use Rattle.kilim_run_state.specs.declared.run.Limits.{Limits}
use Rattle.kilim_run_state.specs.declared.value.Token.{Token}
use Rattle.kilim_run_journal.specs.declared.entry.Act.TheVariants as act
use Rattle.kilim_run_model.specs.State.{Setting}
use Rattle.kilim_run_model.specs.Lone.{Lone}
use Rattle.kilim_run_model.specs.Course.{Course, plain, IsLone, stands_at}
use Rattle.kilim_run_model.specs.declared.deed.Deed.{Deed}
use Rattle.kilim_run_model.specs.declared.deed.Beginning.TheVariants.{Begun}
use Rattle.kilim_run_model.specs.Moving.{further}
use Rattle.kilim_run_model.specs.declared.waits.Waits.{Waits}
use Rattle.kilim_run_model.specs.declared.waits.Waits.TheVariants as wait
use Rattle.kilim_run_board.specs.NewBounds.{BoundsAreNew}
use Rattle.kilim_run_board.specs.fibers.Wishes.{IsMessage, Wish, ToPut, ToPutWait, ToBound, ToTake, ToProbe, ToStart, ToPrint, ToEnd, Wishes}
use Rattle.kilim_run_board.specs.declared.fibers.Wants.{Wants}
use Rattle.kilim_run_board.specs.declared.fibers.Wants.TheVariants as wants
use Rattle.kilim_run_board.specs.declared.fibers.Answer.{Answer}
use Rattle.kilim_run_board.specs.declared.fibers.Answer.TheVariants as answer

-- ---- what a fiber stands for

-- a setting of this run: its program is that of the code, its main class is this one
pub record IsOfRun {C : Type 0} (serves : Setting → C → Type 0) (code : C) (main : ClassId) (set : Setting) : Type 0 where
  pub served : serves set code
  pub is-main : set.main ≡ main

-- a fiber stands for the thread of its course
pub record StandsFor {F : Type 0} (task : F → ℕ) (course : F → Course) (holds : Setting → F → Lone → Type 0) (set : Setting) (f : F) : Type 0 where
  pub lone : Lone
  pub is : IsLone set (task f) (course f) lone
  pub held : holds set f lone

-- and that thread stands where it may have to wait for this
pub record StandsAt {F : Type 0} (task : F → ℕ) (course : F → Course) (holds : Setting → F → Lone → Type 0) (set : Setting) (f : F) (waits : Waits) : Type 0 where
  pub stands : StandsFor task course holds set f
  pub at : stands_at set (task f) stands.lone ≡ Some waits

-- the thread of the fiber's course stands right before this action
pub record Asks {F : Type 0} (task : F → ℕ) (course : F → Course) (asked : Setting → F → Lone → Type 0) (set : Setting) (f : F) (wish : Wish) : Type 0 where
  pub wishes : Wishes set (task f) (course f) wish
  pub is-asked : asked set f wishes.lone

-- nothing is done yet
abbrev pub IsNewCourse : Course → Type 0
IsNewCourse c = c.deeds ≡ []

-- a task that began with an object of that shape, and has done nothing yet
abbrev pub NewCourse : {F : Type 0} → (F → Course) → F → List Token → Type 0
NewCourse course f shape = course f ≡ record { beginning = Begun shape; deeds = [] }

-- ---- resume

-- what comes with each answer
abbrev pub Resumed : {F : Type 0} → (F → ℕ) → (F → Course) → (Setting → F → Lone → Type 0) → (Setting → F → Lone → Type 0) → Setting → F → Wants F → Type 0
Resumed task course holds asked set f (wants.Put box tree shape) = Asks task course asked set f (ToPut box shape) × IsMessage set.program tree shape
Resumed task course holds asked set f (wants.PutWait box tree shape) = Asks task course asked set f (ToPutWait box shape) × IsMessage set.program tree shape
Resumed task course holds asked set f (wants.Bound box most) = Asks task course asked set f (ToBound box most) × BoundsAreNew set
Resumed task course holds asked set f (wants.Take box) = Asks task course asked set f (ToTake box)
Resumed task course holds asked set f (wants.Probe box) = Asks task course asked set f (ToProbe box)
Resumed task course holds asked set f (wants.Start new shape) = Asks task course asked set f (ToStart shape) × NewCourse course new shape × StandsFor task course holds set new
Resumed task course holds asked set f (wants.Print shape) = Asks task course asked set f (ToPrint shape)
Resumed task course holds asked set f (wants.Rest None) = StandsFor task course holds set f
Resumed task course holds asked set f (wants.Rest (Some waits)) = StandsAt task course holds set f waits
Resumed task course holds asked set f (wants.End why) = Wishes set (task f) (course f) (ToEnd why)

-- it may run: it stands for a course of some setting with this code and these limits
pub record CanRun {F C : Type 0} (task : F → ℕ) (course : F → Course) (holds : Setting → F → Lone → Type 0) (serves : Setting → C → Type 0) (code : C) (limits : Limits) (f : F) : Type 0 where
  pub set : Setting
  pub served : serves set code
  pub is-limits : set.limits ≡ limits
  pub stands : StandsFor task course holds set f

-- It rests at a mailbox where its take of it was answered nothing just before, or its put that it is full, and only there. Without a
-- mailbox it rests where a `yield` was counted.
abbrev pub RestsRightly : {F : Type 0} → Bool → Option Waits → (before after : ℕ) → Wants F → Type 0
RestsRightly rests refused before after (wants.Rest None) = (refused ≡ None) × (before < after) × (rests ≡ true)
RestsRightly rests refused before after (wants.Rest (Some waits)) = (refused ≡ Some waits) × (rests ≡ true)
RestsRightly rests refused before after w = refused ≡ None

-- a newly begun fiber rests, and was answered nothing yet
abbrev pub StartsFresh : {F : Type 0} → (F → Bool) → (F → Option Waits) → Wants F → Type 0
StartsFresh rests refused (wants.Start f shape) = (rests f ≡ true) × (refused f ≡ None)
StartsFresh rests refused w = Unit {0}

-- it has counted no instruction yet
abbrev pub StartsAtNone : {F : Type 0} → (F → ℕ) → Wants F → Type 0
StartsAtNone count (wants.Start f shape) = count f ≡ 0
StartsAtNone count w = Unit {0}

-- ---- answer

-- The deed that an answer makes, if it makes one. Other answers don't fit.
abbrev pub Fits : Program → Wish → Answer → Option Deed → Type 0
Fits p (ToPut box shape) (answer.Sent n) d = d ≡ Some (plain (act.Put box n shape))
Fits p (ToPutWait box shape) (answer.Sent n) d = d ≡ Some (plain (act.Put box n shape))
Fits p (ToPutWait box shape) (answer.Full tree same) d = (d ≡ None) × (same ≡ shape) × IsMessage p tree shape
Fits p (ToBound box most) answer.Done d = d ≡ Some (plain (act.Bound box most))
Fits p (ToTake box) (answer.Message tree n) d = (shape : List Token) × IsMessage p tree shape × (d ≡ Some (record { act = act.Take box n; taken = shape }))
Fits p (ToTake box) answer.Nothing d = d ≡ None
Fits p (ToProbe box) (answer.Message tree n) d = (shape : List Token) × IsMessage p tree shape × (d ≡ Some (record { act = act.Take box n; taken = shape }))
Fits p (ToProbe box) answer.Nothing d = d ≡ Some (plain (act.Empty box))
Fits p (ToStart shape) (answer.Started n) d = d ≡ Some (plain (act.Start n shape))
Fits p (ToPrint shape) answer.Done d = d ≡ Some (plain (act.Print shape))
Fits p wish a d = ⊥

abbrev pub course_after : Course → Option Deed → Course
course_after c None = c
course_after c (Some d) = further c d

-- the answer fits what the fiber asks, in some setting with this code
pub record CanAnswer {F C : Type 0} (task : F → ℕ) (course : F → Course) (asked : Setting → F → Lone → Type 0) (serves : Setting → C → Type 0) (code : C) (f : F) (a : Answer) : Type 0 where
  pub set : Setting
  pub served : serves set code
  pub wish : Wish
  pub deed : Option Deed
  pub asks : Asks task course asked set f wish
  pub fits : Fits set.program wish a deed

-- An answer that makes a deed counts an instruction. A take that is answered nothing, and a put that is answered that the mailbox is full,
-- count none, and were refused.
abbrev pub CountsRightly : Wish → (before after : ℕ) → (refused : Option Waits) → Option Deed → Type 0
CountsRightly (ToTake box) before after refused None = (after ≡ before) × (refused ≡ Some (wait.Take box))
CountsRightly (ToPutWait box shape) before after refused None = (after ≡ before) × (refused ≡ Some (wait.Put box))
CountsRightly wish before after refused None = (after ≡ before) × (refused ≡ None)
CountsRightly wish before after refused (Some d) = (before < after) × (refused ≡ None)
