-- Verified code never gets stuck.
use Rattle.std.specs.Prelude.{◌≡◌, ◌⊎◌, ℕ, ◌==◌, if◌then◌else◌, Bool, true, false, List, [], ◌∷◌, Some, None}
use Rattle.std.specs.FinMap.{get, insert}
use Rattle.kilim_program.specs.declared.names.BoxName.{BoxName}
use Rattle.kilim_program.specs.declared.names.MethodId.{MethodId}
use Rattle.kilim_program.specs.declared.ty.Ty.{Ty}
use Rattle.kilim_run_state.specs.declared.value.Object.{Object as HeapObject}
use Rattle.kilim_program.specs.declared.value.Value.{Value}
use Rattle.kilim_program.specs.declared.value.Value.TheVariants.{Ref, Box}
use Rattle.kilim_program.specs.BuiltIn.{class_type}
use Rattle.kilim_type_spec.specs.Step.{vtype}
use Rattle.kilim_program.specs.declared.class.Handler.{Handler}
use Rattle.kilim_program.specs.declared.class.Method.{Method}
use Rattle.kilim_program.specs.declared.instr.Instr.{Instr}
use Rattle.kilim_program.specs.Program.{Program}
use Rattle.kilim_run_state.specs.Machine.{Objects, Activation}
use Rattle.kilim_program.specs.Names.{method_at}
use Rattle.kilim_run_machine.specs.Moves.{moves, entered, push_value}
use Rattle.kilim_run_machine.specs.Moves as move
use Rattle.kilim_type_sound.specs.Fits.{Classes, Typing, Wanted, WantsAt, Fits, AreThere, Verified, HeapFits, ObjectFits, has_type, is_of}
use Rattle.kilim_program.specs.Lengths.{fetched, is_reference_type}
use Rattle.kilim_type_spec.specs.Typed.{IsLive, WellTypedBy, has_code}
use Rattle.kilim_program.specs.Keeps.{Keeps}
use Rattle.kilim_type_sound.specs.Sound.{MoveFits}
use Rattle.kilim_type_sound.specs.Facts.{Facts}

-- The next move of frames that fit is one, and what it leaves fits.
abbrev pub MovesFit : Type 0
MovesFit = (p : Program) (typing : Typing) (live : Wanted) (of : Classes) → Facts p → Verified p typing live → (top : Activation) (below : List Activation) (h : Objects) →
    Fits p typing live of (top ∷ below) h → AreThere h top.stack → MoveFits p typing live of (moves p top below h)

-- ---- answers

-- one more name
abbrev pub with_class : Classes → ℕ → Ty → Classes
with_class of n c = λ q. if n == q then Some c else of q

-- no object is lost
abbrev pub Extends : Classes → Classes → Type 0
Extends of more = (n : ℕ) (c : Ty) → of n ≡ Some c → more n ≡ Some c

-- What fits goes on fitting where other objects come, where objects go, and where what a frame waits for comes.
pub record AnswersFit (p : Program) (typing : Typing) (live : Wanted) : Type 0 where
  -- a new object, under a name that no object ever had
  pub added : (of : Classes) (object : HeapObject) (frames : List Activation) (h : Objects) (n : ℕ) → of n ≡ None → MoveFits p typing live of (move.Makes object frames h) →
      Fits p typing live (with_class of n object.class) (push_value (Ref n) frames) (insert h n object)
  -- a new mailbox
  pub opened : (of : Classes) (frames : List Activation) (h : Objects) (box : BoxName) → MoveFits p typing live of (move.Opens frames h) → Fits p typing live of (push_value (Box box) frames) h
  -- a built-in method without a result
  pub done : (of : Classes) (id : MethodId) (args : List Value) (frames : List Activation) (h : Objects) (callee : Method) → method_at p id ≡ Some callee → callee.result ≡ None → MoveFits p typing live of (move.Asks id args frames h) → Fits p typing live of frames h
  -- a built-in method with a result; objects may have come with it, as a taken tree does
  pub answered : (of more : Classes) (id : MethodId) (args : List Value) (frames : List Activation) (h : Objects) (callee : Method) (ty : Ty) (v : Value) → method_at p id ≡ Some callee → callee.result ≡ Some ty → Extends of more → has_type p callee more (vtype ty) v ≡ true →
      MoveFits p typing live of (move.Asks id args frames h) → (after : Objects) → HeapFits p more after → Fits p typing live more (push_value v frames) after
  -- objects that are gone, as those of a tree that is put or started
  pub gone : (of : Classes) (frames : List Activation) (h after : Objects) → ((n : ℕ) (o : HeapObject) → get after n ≡ Some o → get h n ≡ Some o) → Fits p typing live of frames h → Fits p typing live of frames after
  -- objects that come: each of a class of its own, and each fits
  pub came : (of more : Classes) (h after : Objects) → Extends of more → HeapFits p of h → ((n : ℕ) (c : Ty) → more n ≡ Some c → is_reference_type c.dims c.base ≡ true) →
      ((n : ℕ) (o : HeapObject) → get after n ≡ Some o → (get h n ≡ Some o) ⊎ ((more n ≡ Some o.class) × ObjectFits p more o)) → HeapFits p more after

abbrev pub AllAnswersFit : Type 0
AllAnswersFit = (p : Program) (typing : Typing) (live : Wanted) → Facts p → AnswersFit p typing live

-- A method's beginning on an object: the constructor of a new object, `execute` of a task.
abbrev pub BeginningsFit : Type 0
BeginningsFit = (p : Program) (typing : Typing) (live : Wanted) (of : Classes) → Facts p → Verified p typing live → (id : MethodId) (m : Method) (n : ℕ) (h : Objects) → method_at p id ≡ Some m → has_code m ≡ true → m.is_static ≡ false → m.params ≡ [] →
    is_of p (of n) (class_type m.owner.0) ≡ true → HeapFits p of h → Fits p typing live of (entered p id (Ref n ∷ []) ∷ []) h

-- What the step rests on of a program follows from what every program keeps, and from these premises.
abbrev pub FactsHold : Type 0
FactsHold = (p : Program) → Keeps p → Facts p

-- A program whose methods with code are well typed by some frames of verification, and want what is read, is verified.
abbrev pub AreVerified : Type 0
AreVerified = (p : Program) (typing : Typing) (live : Wanted) → Keeps p → ((id : MethodId) (m : Method) → method_at p id ≡ Some m → has_code m ≡ true → WellTypedBy p m (typing id)) →
    ((id : MethodId) (m : Method) → method_at p id ≡ Some m → (at : ℕ) (found : Instr × ℕ) → fetched m.code m.code_length at ≡ Some found → WantsAt m.handlers (live id) at found.1 found.0) → Verified p typing live

-- All locals may be wanted, or the live ones alone.
pub record AreWanted : Type 0 where
  pub all : (handlers : List Handler) (at next : ℕ) (i : Instr) → WantsAt handlers (λ q k. true) at next i
  pub live : (m : Method) (live : ℕ → ℕ → Bool) → IsLive m live → (at next : ℕ) (i : Instr) → fetched m.code m.code_length at ≡ Some (i, next) → WantsAt m.handlers live at next i
