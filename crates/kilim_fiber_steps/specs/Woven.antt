-- Several steps of a woven fiber: instructions, and members of `kilim/Fiber`, which change its records.
use Rattle.std.specs.Prelude.{◌≡◌, ℕ, ◌+◌, ◌<◌, ◌≤◌, Bool, true, false, not, ◌&&◌, if◌then◌else◌, List, [], ◌∷◌, Option, Some, length, drop, reverse, take}
use Rattle.kilim_program.specs.declared.class.Method.{Method}
use Rattle.kilim_program.specs.declared.names.MethodId.{MethodId}
use Rattle.kilim_program.specs.declared.value.Value.{Value}
use Rattle.kilim_program.specs.declared.value.Value.TheVariants.{Fiber, Null}
use Rattle.kilim_program.specs.Lengths.{first_place}
use Rattle.kilim_program.specs.Program.{Program}
use Rattle.kilim_run_state.specs.Machine.{Activation, Objects}
use Rattle.kilim_run_state.specs.declared.frames.frame.Frame.{Frame}
use Rattle.kilim_run_state.specs.declared.frames.frames.Frames.{Frames}
use Rattle.kilim_run_state.specs.frames.Calls.{activation, below_of}
use Rattle.kilim_run_machine.specs.Moves.{Move, moves, push_result}
use Rattle.kilim_run_machine.specs.Moves as move
use Rattle.kilim_run_machine.specs.Natives.{FiberMember, native_of}
use Rattle.kilim_run_machine.specs.Natives as native
use Rattle.kilim_run_interp.specs.Run.{IsFine}
use Rattle.kilim_run_interp.specs.Step.{CallerFits}
use Rattle.kilim_fiber_spec.specs.Fibers.{Fib, is_rewinding, pausing, rewound}
use Rattle.kilim_fiber_spec.specs.Thread.{push}
use Rattle.kilim_fiber_steps.specs.Counted.{CountedRunsTo, HasCountedRun}
use Rattle.kilim_fiber_steps.specs.Legs.{HasHalted, IsCountedLeg, standing}
use Rattle.kilim_fiber_steps.specs.Marks.{IsMarked, NextHas}
use Rattle.kilim_fiber_steps.specs.records.Members.{Does, NotDone, did}
use Rattle.kilim_fiber_steps.specs.records.natives.Natives.{member_meant}
use Rattle.kilim_fiber_steps.specs.declared.records.natives.natives.Member.{Member}
use Rattle.kilim_fiber_steps.specs.declared.runs.Call.{Call}
use Rattle.kilim_fiber_steps.specs.declared.runs.Call.TheVariants as call
use Rattle.kilim_fiber_steps.specs.declared.runs.Halt.{Halt}
use Rattle.kilim_fiber_steps.specs.declared.runs.Halted.{Halted}

-- ---- a member

-- it has a result
abbrev pub gives_value : FiberMember → Bool
gives_value native.Save = false
gives_value native.Place = false
gives_value _ = true

-- What is known of a next move that is a call of a member or a `yield`: the member is one that does something, and there is room for its result; a `yield` has the
-- fiber alone.
pub record OwnFits (p : Program) (f : Fib) (id : MethodId) (args : List Value) (frames : List Activation) : Type 0 where
  pub member : (member : FiberMember) → native_of p id ≡ Some (native.OfFiber member) → (did member args f ≡ NotDone → ⊥) × (gives_value member ≡ true → CallerFits p frames)
  pub yield : native_of p id ≡ Some native.Yield → args ≡ Fiber ∷ []

abbrev pub MemberFits : Program → Fib → Move → Type 0
MemberFits p f (move.Asks id args frames heap) = OwnFits p f id args frames
MemberFits p f m = Unit {0}

-- the move calls a member, which leaves these records, and the task goes on with its result
pub record MemberSteps (p : Program) (m : Move) (old : Fib) (h : Objects) (calls : List Activation) (new : Fib) : Type 0 where
  pub id : MethodId
  pub member : FiberMember
  pub args : List Value
  pub after : List Activation
  pub value : Option Value
  pub asks : m ≡ move.Asks id args after h
  pub is : native_of p id ≡ Some (native.OfFiber member)
  pub does : did member args old ≡ Does new value
  pub goes : calls ≡ push_result value after

-- the move is a `yield`, and the task goes on behind it
pub record YieldSteps (p : Program) (m : Move) (h : Objects) (calls : List Activation) : Type 0 where
  pub id : MethodId
  pub asks : m ≡ move.Asks id (Fiber ∷ []) calls h
  pub is : native_of p id ≡ Some native.Yield

-- A member with so many operands on top of a frame's stack was done: they are gone, and its result is there.
pub record IsDone (member : FiberMember) (count : ℕ) (before : Frame) (old : Fib) (after : Frame) (new : Fib) : Type 0 where
  pub value : Option Value
  pub does : did member (reverse (take count before.stack.values)) old ≡ Does new value
  pub frame : after ≡ record before { stack = record before.stack { values = push value (drop count before.stack.values) } }

-- A `yield` with so many operands on top of a frame's stack was made: they are gone. One of a live fiber pauses, one that is made again ends the rewinding.
pub record HasYielded (live : Bool) (count : ℕ) (before : Frame) (old : Fib) (after : Frame) (new : Fib) : Type 0 where
  pub frame : after ≡ record before { stack = record before.stack { values = drop count before.stack.values } }
  pub fiber : new ≡ (if live then pausing Null old else rewound old)

-- ---- many steps

-- Steps one after the other, of which so many count, at most as many as the limit. A member counts nothing; a `yield` that is made again returns, and the rewinding is
-- over; one that is made counts, and pauses. None of them is called where the instruction counts and as many are counted as may be.
pub data FiberRunsTo (p : Program) (counted : List (List Bool)) (limit : ℕ) (first : List Activation) (h : Objects) (f : Fib) : ℕ → List Activation → Objects → Fib → Type 0 where
  AtFirst : {n : ℕ} {calls : List Activation} {k : Objects} {g : Fib} → n ≡ 0 → calls ≡ first → k ≡ h → g ≡ f → FiberRunsTo p counted limit first h f n calls k g
  ByRun : {n : ℕ} {calls : List Activation} {k : Objects} {g : Fib} (m more : ℕ) (mid : List Activation) (x : Objects) →
      FiberRunsTo p counted limit first h f m mid x g → CountedRunsTo p counted (not (is_rewinding g)) mid x more calls k → n ≡ m + more → n ≤ limit → FiberRunsTo p counted limit first h f n calls k g
  ByMember : {n : ℕ} {calls : List Activation} {k : Objects} {g : Fib} (mark : Bool) (top : Activation) (below : List Activation) (e : Fib) →
      FiberRunsTo p counted limit first h f n (top ∷ below) k e → NextHas p counted mark (top ∷ below) → ((mark && not (is_rewinding e)) ≡ true → n < limit) →
      MemberSteps p (moves p top below k) e k calls g → FiberRunsTo p counted limit first h f n calls k g
  ByReturn : {n : ℕ} {calls : List Activation} {k : Objects} {g : Fib} (mark : Bool) (top : Activation) (below : List Activation) (e : Fib) →
      FiberRunsTo p counted limit first h f n (top ∷ below) k e → NextHas p counted mark (top ∷ below) → is_rewinding e ≡ true →
      YieldSteps p (moves p top below k) k calls → g ≡ rewound e → FiberRunsTo p counted limit first h f n calls k g
  ByPause : {n : ℕ} {calls : List Activation} {k : Objects} {g : Fib} (m : ℕ) (mark : Bool) (top : Activation) (below : List Activation) (e : Fib) →
      FiberRunsTo p counted limit first h f m (top ∷ below) k e → NextHas p counted mark (top ∷ below) → is_rewinding e ≡ false →
      YieldSteps p (moves p top below k) k calls → g ≡ pausing Null e → n ≡ m + 1 → n ≤ limit → FiberRunsTo p counted limit first h f n calls k g

-- the next step is fine, and a member that it calls does something
pub record IsFiberFine (p : Program) (top : Activation) (below : List Activation) (h : Objects) (f : Fib) : Type 0 where
  pub fine : IsFine p top below h
  pub fits : MemberFits p f (moves p top below h)

-- Wherever such steps lead, the next one is fine, if its instruction has a mark: unless that counts, and as many are counted as may be.
abbrev pub IsFiberSafe : Program → List (List Bool) → ℕ → List Activation → Objects → Fib → Type 0
IsFiberSafe p counted limit first h f =
    (n : ℕ) (mark : Bool) (top : Activation) (below : List Activation) (k : Objects) (g : Fib) → n ≤ limit → ((mark && not (is_rewinding g)) ≡ true → n < limit) →
    FiberRunsTo p counted limit first h f n (top ∷ below) k g → NextHas p counted mark (top ∷ below) → IsFiberFine p top below k g

-- Steps of a fiber, and behind them steps with the records as they are then.
pub record HasFiberRun (p : Program) (counted : List (List Bool)) (limit : ℕ) (first : List Activation) (h : Objects) (f : Fib) (steps : ℕ) (mark : Bool) (halted : Halted) (new : Frames) (k : Objects) (g : Fib) : Type 0 where
  pub done : ℕ
  pub left : ℕ
  pub rest : ℕ
  pub calls : List Activation
  pub heap : Objects
  pub runs : FiberRunsTo p counted limit first h f done calls heap g
  pub all : done + left ≡ limit
  pub sum : steps ≡ done + rest
  pub is : HasCountedRun p counted (not (is_rewinding g)) left calls heap rest mark halted new k

-- ---- parts of it

-- the next instruction calls a member, with so many operands, and the one of that number stands behind it
pub record CallsMember (p : Program) (own : Method) (marks : List Bool) (live : Bool) (left : ℕ) (frames : Frames) (frame : Frame) (at : ℕ) (h : Objects) (member : Member) (count behind : ℕ) : Type 0 where
  pub mark : Bool
  pub is : IsMarked own.code marks own.code_length (first_place (drop at own.code) own.code_length) mark
  pub some : (mark && live) ≡ true → 0 < left
  pub within : behind < length own.code
  pub id : MethodId
  pub of_fiber : native_of p id ≡ Some (native.OfFiber (member_meant member))
  pub there : count ≤ length frame.stack.values
  pub asks :
      moves p (activation (standing own frames frame at).top) (below_of frames) h ≡
      move.Asks id (reverse (take count frame.stack.values))
      (record { method = frame.method; place = first_place (drop behind own.code) own.code_length; locals = frame.locals; stack = drop count frame.stack.values } ∷ below_of frames) h

-- the next instruction is a `yield`, and there is an instruction left for one that counts
pub record CallsYield (p : Program) (own : Method) (marks : List Bool) (live : Bool) (left : ℕ) (frames : Frames) (frame : Frame) (at : ℕ) (h : Objects) (count behind : ℕ) : Type 0 where
  pub mark : Bool
  pub is : IsMarked own.code marks own.code_length (first_place (drop at own.code) own.code_length) mark
  pub some : (mark && live) ≡ true → 0 < left
  pub more : live ≡ true → 0 < left
  pub within : behind < length own.code
  pub id : MethodId
  pub of_fiber : native_of p id ≡ Some native.Yield
  pub there : count ≤ length frame.stack.values
  pub asks :
      moves p (activation (standing own frames frame at).top) (below_of frames) h ≡
      move.Asks id (reverse (take count frame.stack.values))
      (record { method = frame.method; place = first_place (drop behind own.code) own.code_length; locals = frame.locals; stack = drop count frame.stack.values } ∷ below_of frames) h

abbrev pub IsCall : Program → Method → List Bool → Bool → ℕ → Frames → Frame → ℕ → Objects → Call → Type 0
IsCall p own marks live left frames frame at h (call.Member member count behind) = CallsMember p own marks live left frames frame at h member count behind
IsCall p own marks live left frames frame at h (call.Yields count behind) = CallsYield p own marks live left frames frame at h count behind
IsCall p own marks live left frames frame at h (call.Halts halt) = HasHalted p own marks live left (standing own frames frame at) h halt (standing own frames frame at) h

-- steps of one frame and members, and behind them steps of the frame with the records as they are then
pub record IsFiberLeg (p : Program) (own : Method) (counted : List (List Bool)) (limit most : ℕ) (first : List Activation) (h : Objects) (f : Fib) (left fuel : ℕ) (halt : Halt) (new : Frames) (k : Objects) (g : Fib) : Type 0 where
  pub done : ℕ
  pub rest : ℕ
  pub calls : List Activation
  pub heap : Objects
  pub runs : FiberRunsTo p counted limit first h f done calls heap g
  pub all : done + rest ≡ limit
  pub leg : IsCountedLeg p own counted (not (is_rewinding g)) rest most calls heap left fuel halt new k
