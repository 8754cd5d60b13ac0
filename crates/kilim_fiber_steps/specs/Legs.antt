-- What the parts of `run_counted` say: one instruction, the steps of one frame, and what settles the last of them. Its own clauses don't rest on it.
use Rattle.std.specs.Prelude.{◌≡◌, ℕ, ◌-◌, ◌<◌, ◌≤◌, Bool, true, ◌&&◌, List, ◌∷◌, Option, Some, None, drop, length}
use Rattle.kilim_program.specs.declared.class.Method.{Method}
use Rattle.kilim_program.specs.Lengths.{first_place}
use Rattle.kilim_program.specs.Program.{Program}
use Rattle.kilim_run_state.specs.Machine.{Activation, Objects}
use Rattle.kilim_run_machine.specs.Moves.{Move, effect_of, moves}
use Rattle.kilim_run_state.specs.declared.frames.frame.Frame.{Frame}
use Rattle.kilim_run_state.specs.declared.frames.frames.Frames.{Frames}
use Rattle.kilim_run_state.specs.frames.Calls.{activation, below_of, calls_of}
use Rattle.kilim_run_rows.specs.declared.outcome.Moved.{Moved}
use Rattle.kilim_run_rows.specs.Outcome.{Shows}
use Rattle.kilim_run_interp.specs.Step.{IsWent, Steps}
use Rattle.kilim_run_interp.specs.declared.machine.Stepped.TheVariants as stepped
use Rattle.kilim_fiber_steps.specs.Counted.{CountedRunsTo, GoesOn, IsEnding, asked_of, tick_if}
use Rattle.kilim_fiber_steps.specs.Marks.{IsMark, IsMarked, NextHas}
use Rattle.kilim_fiber_steps.specs.declared.runs.Halt.{Halt}
use Rattle.kilim_fiber_steps.specs.declared.runs.Halt.TheVariants as halt
use Rattle.kilim_fiber_steps.specs.declared.runs.Halted.{Halted}
use Rattle.kilim_fiber_steps.specs.declared.runs.Halted.TheVariants as halted
use Rattle.kilim_fiber_steps.specs.declared.runs.Near.{Near}
use Rattle.kilim_fiber_steps.specs.declared.runs.Near.TheVariants as near
use Rattle.kilim_fiber_steps.specs.declared.runs.One.{One}
use Rattle.kilim_fiber_steps.specs.declared.runs.One.TheVariants.{Goes, Halts}

-- ---- one instruction

-- the frames and the heap are as they were
pub record IsStill (old new : Frames) (h k : Objects) : Type 0 where
  pub frames : calls_of new ≡ calls_of old
  pub heap : k ≡ h

-- it was done, and the frame goes on; and whether it counted
pub record HasGone (p : Program) (own : Method) (marks : List Bool) (live : Bool) (left : ℕ) (old : Frames) (h : Objects) (counts : Bool) (new : Frames) (k : Objects) : Type 0 where
  pub mark : Bool
  pub is : IsMarked own.code marks own.code_length old.top.pc mark
  pub by : counts ≡ (mark && live)
  pub some : (mark && live) ≡ true → 0 < left
  pub went : IsWent (moves p (activation old.top) (below_of old) h) (calls_of new) h k

-- what came of it isn't settled yet
pub record IsOpen (p : Program) (own : Method) (marks : List Bool) (live : Bool) (left : ℕ) (old : Frames) (h : Objects) (mark : Bool) (moved : Moved) (next : ℕ) (new : Frames) (k : Objects) : Type 0 where
  pub is : IsMarked own.code marks own.code_length old.top.pc mark
  pub some : (mark && live) ≡ true → 0 < left
  pub shows : Shows own (effect_of p (activation old.top) h) next moved old.top new.top h k
  pub same : old.top.method ≡ new.top.method
  pub below : below_of new ≡ below_of old

-- it counts, and none is left that may
pub record IsOver (own : Method) (marks : List Bool) (live : Bool) (left : ℕ) (old : Frames) (h : Objects) (new : Frames) (k : Objects) : Type 0 where
  pub is : IsMarked own.code marks own.code_length old.top.pc true
  pub lives : live ≡ true
  pub none : left ≡ 0
  pub still : IsStill old new h k

abbrev pub HasHalted : Program → Method → List Bool → Bool → ℕ → Frames → Objects → Halt → Frames → Objects → Type 0
HasHalted p own marks live left old h halt.Stops new k = IsStill old new h k
HasHalted p own marks live left old h halt.Spent new k = IsOver own marks live left old h new k
HasHalted p own marks live left old h (halt.Leaves mark moved next) new k = IsOpen p own marks live left old h mark moved next new k
HasHalted p own marks live left old h halt.Far new k = IsStill old new h k
HasHalted p own marks live left old h halt.On new k = ⊥
HasHalted p own marks live left old h halt.Lost new k = Unit {0}

abbrev pub Does : Program → Method → List Bool → Bool → ℕ → Frames → Objects → One → Frames → Objects → Type 0
Does p own marks live left old h (Goes counts near) new k = HasGone p own marks live left old h counts new k
Does p own marks live left old h (Halts halt) new k = HasHalted p own marks live left old h halt new k

-- ---- one instruction, with the frame in variables of its own

-- the frames, with that one on top, at the instruction of a number
abbrev pub standing : Method → Frames → Frame → ℕ → Frames
standing own frames frame at = record frames { top = record frame { pc = first_place (drop at own.code) own.code_length } }

-- it was done, and the frame goes on at the instruction of another number; and how many are left that may count
pub record GoesNear (p : Program) (own : Method) (marks : List Bool) (live : Bool) (left : ℕ) (frames : Frames) (before : Frame) (at : ℕ) (h : Objects) (after : Frame) (next fewer : ℕ) (k : Objects) : Type 0 where
  pub counts : Bool
  pub within : next < length own.code
  pub less : left ≡ tick_if counts fewer
  pub gone : HasGone p own marks live left (standing own frames before at) h counts (standing own frames after next) k

pub record HaltsNear (p : Program) (own : Method) (marks : List Bool) (live : Bool) (left : ℕ) (frames : Frames) (before : Frame) (at : ℕ) (h : Objects) (halt : Halt) (after : Frame) (next fewer : ℕ) (k : Objects) : Type 0 where
  pub same : next ≡ at
  pub kept : fewer ≡ left
  pub is : HasHalted p own marks live left (standing own frames before at) h halt (standing own frames after at) k

abbrev pub DoesNear : Program → Method → List Bool → Bool → ℕ → Frames → Frame → ℕ → Objects → Near → Frame → ℕ → ℕ → Objects → Type 0
DoesNear p own marks live left frames before at h near.Goes after next fewer k = GoesNear p own marks live left frames before at h after next fewer k
DoesNear p own marks live left frames before at h (near.Halts halt) after next fewer k = HaltsNear p own marks live left frames before at h halt after next fewer k

-- ---- the steps of one frame

-- what came of the next instruction of the top frame, which isn't settled yet
pub record IsUnsettled (p : Program) (own : Method) (counted : List (List Bool)) (live : Bool) (limit : ℕ) (first : List Activation) (h : Objects) (left : ℕ) (mark : Bool) (moved : Moved) (next : ℕ) (new : Frames) (k : Objects) : Type 0 where
  pub before : Frame
  pub heap : Objects
  pub runs : CountedRunsTo p counted live first h (limit - left) (activation before ∷ below_of new) heap
  pub has : IsMark p counted before.method before.pc mark
  pub some : (mark && live) ≡ true → 0 < left
  pub shows : Shows own (effect_of p (activation before) heap) next moved before new.top heap k
  pub same : before.method ≡ new.top.method

-- the next instruction counts, and none is left that may
pub record HasSpent (p : Program) (counted : List (List Bool)) (live : Bool) (limit : ℕ) (first : List Activation) (h : Objects) (left : ℕ) (new : Frames) (k : Objects) : Type 0 where
  pub runs : CountedRunsTo p counted live first h (limit - left) (calls_of new) k
  pub has : NextHas p counted true (calls_of new)
  pub lives : live ≡ true
  pub none : left ≡ 0

-- what ended them
abbrev pub IsHalt : Program → Method → List (List Bool) → Bool → ℕ → List Activation → Objects → ℕ → ℕ → Halt → Frames → Objects → Type 0
IsHalt p own counted live limit first h left fuel halt.Stops new k = CountedRunsTo p counted live first h (limit - left) (calls_of new) k
IsHalt p own counted live limit first h left fuel halt.Spent new k = HasSpent p counted live limit first h left new k
IsHalt p own counted live limit first h left fuel (halt.Leaves mark moved next) new k = (0 < fuel) × IsUnsettled p own counted live limit first h left mark moved next new k
IsHalt p own counted live limit first h left fuel halt.Far new k = (0 < fuel) × CountedRunsTo p counted live first h (limit - left) (calls_of new) k
IsHalt p own counted live limit first h left fuel halt.On new k = (0 < fuel) × CountedRunsTo p counted live first h (limit - left) (calls_of new) k
IsHalt p own counted live limit first h left fuel halt.Lost new k = Unit {0}

pub record IsCountedLeg (p : Program) (own : Method) (counted : List (List Bool)) (live : Bool) (limit most : ℕ) (first : List Activation) (h : Objects) (left fuel : ℕ) (halt : Halt) (new : Frames) (k : Objects) : Type 0 where
  pub few : left ≤ limit
  pub less : fuel ≤ most
  pub is : IsHalt p own counted live limit first h left fuel halt new k

-- ---- the last of them, settled

-- what halts the run, or none where the task goes on
abbrev pub Settles : Program → Activation → List Activation → Move → Option Halted → Frames → Objects → Objects → Type 0
Settles p top below m None new h k = GoesOn p top below m h (calls_of new) k
Settles p top below m (Some halted.Stops) new h k = ⊥
Settles p top below m (Some halted.Spent) new h k = ⊥
Settles p top below m (Some halted.NewBox) new h k = Steps m stepped.NewBox (top ∷ below) new h k
Settles p top below m (Some (halted.Asks id)) new h k = (new.operands ≤ length new.top.stack.values) × Steps m (stepped.AtNative (asked_of id new)) (top ∷ below) new h k
Settles p top below m (Some halted.Returned) new h k = Steps m stepped.Returned (top ∷ below) new h k
Settles p top below m (Some (halted.Ended cause)) new h k = IsEnding p top below m cause
