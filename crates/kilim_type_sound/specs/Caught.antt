-- Where an object is thrown, the frames that are left fit the frames of verification: verified code never gets stuck at a handler.
use Rattle.std.specs.Prelude.{◌≡◌, ℕ, Bool, true, false, List, [], ◌∷◌, Some, None, is_some}
use Rattle.std.specs.FinMap.{insert}
use Rattle.std.specs.List.{list_any}
use Rattle.kilim_program.specs.declared.class.Handler.{Handler}
use Rattle.kilim_program.specs.declared.class.Method.{Method}
use Rattle.kilim_program.specs.declared.instr.Instr.{Instr}
use Rattle.kilim_program.specs.declared.names.ClassId.{ClassId}
use Rattle.kilim_program.specs.declared.names.MethodId.{MethodId}
use Rattle.kilim_program.specs.declared.value.Value.{Value}
use Rattle.kilim_program.specs.declared.value.Value.TheVariants.{Ref}
use Rattle.kilim_program.specs.Program.{Program}
use Rattle.kilim_program.specs.BuiltIn.{class_type}
use Rattle.kilim_program.specs.Keeps.{Keeps}
use Rattle.kilim_program.specs.Lengths.{fetched}
use Rattle.kilim_program.specs.Names.{method_at}
use Rattle.kilim_run_state.specs.declared.cause.EndCause.{EndCause}
use Rattle.kilim_run_state.specs.Machine.{Activation, Objects}
use Rattle.kilim_run_state.specs.Objects.{new_object}
use Rattle.kilim_type_spec.specs.Step.{Types, class_vtype, is_top}
use Rattle.kilim_type_spec.specs.Typed.{FlowsInto, has_code}
use Rattle.kilim_type_sound.specs.Facts.{IsIndexName}
use Rattle.kilim_type_sound.specs.Fits.{AreThere, Classes, Fits, IsThere, Typing, Verified, Wanted}
use Rattle.kilim_type_sound.specs.Law.{with_class}
use Rattle.kilim_type_sound.specs.Sound.{AsksFit}
use Rattle.kilim_run_machine.specs.Moves.{moves}
use Rattle.kilim_run_machine.specs.Moves as move
use Rattle.kilim_run_machine.specs.Raising.{IsEntry, catches_class, covers, is_throwable, raised_class, thrown, unwound}

-- What verification says of a handler that covers an instruction: it is a place of the code, what is wanted there is wanted before the
-- instruction, and the locals there, with an object of a class that it catches alone on the stack, flow into the frame at the handler.
pub record HandlersKeep (p : Program) (m : Method) (typing : ℕ → Types) (live : ℕ → ℕ → Bool) : Type 0 where
  pub wants : (at next : ℕ) (i : Instr) → fetched m.code m.code_length at ≡ Some (i, next) → (h : Handler) → IsEntry m.handlers h → covers h at ≡ true → (k : ℕ) → live h.at k ≡ true → live at k ≡ true
  pub flows : (at next : ℕ) (i : Instr) → fetched m.code m.code_length at ≡ Some (i, next) → (h : Handler) → IsEntry m.handlers h → covers h at ≡ true → (c : ClassId) → is_throwable p c ≡ true → catches_class p h.catch c ≡ true →
      FlowsInto p (record (typing at) { stack = class_vtype c ∷ [] }) (typing h.at) × (list_any is_top (typing h.at).stack ≡ false)
  pub stands : (at next : ℕ) (i : Instr) → fetched m.code m.code_length at ≡ Some (i, next) → (h : Handler) → IsEntry m.handlers h → covers h at ≡ true → is_some (fetched m.code m.code_length h.at) ≡ true

-- It says so of each method with code of a verified program.
abbrev pub AllHandlersKeep : Type 0
AllHandlersKeep = (p : Program) (typing : Typing) (live : Wanted) → Keeps p → Verified p typing live → (id : MethodId) (m : Method) → method_at p id ≡ Some m → has_code m ≡ true → HandlersKeep p m (typing id) (live id)

-- An object of a class that can be thrown is, at the instruction of the top frame: the frames from the first that catches it on fit.
abbrev pub ThrowsFit : Type 0
ThrowsFit = (p : Program) (typing : Typing) (live : Wanted) (of : Classes) → Keeps p → Verified p typing live → (top : Activation) (below : List Activation) (h : Objects) → Fits p typing live of (top ∷ below) h →
    (c : ClassId) (n : ℕ) → of n ≡ Some (class_type c.0) → is_throwable p c ≡ true → Fits p typing live of (thrown p c (Ref n) top below) h

-- What an instruction throws is in the heap, and can be thrown.
abbrev pub ThrownIsThere : Type 0
ThrownIsThere = (p : Program) (typing : Typing) (live : Wanted) (of : Classes) → Keeps p → Verified p typing live → (top : Activation) (below : List Activation) (h : Objects) → Fits p typing live of (top ∷ below) h → AreThere h top.stack →
    (n : ℕ) (c : ClassId) (why : EndCause) → moves p top below h ≡ move.Throws n c why → (of n ≡ Some (class_type c.0)) × (is_throwable p c ≡ true) × IsThere h (Ref n)

-- Where what is raised is caught, the object that is made for it fits, and so do the frames that are left: at the instruction of the top
-- frame, and behind the call of a built-in method.
pub record RaisesFit (p : Program) (typing : Typing) (live : Wanted) : Type 0 where
  pub raised : (of : Classes) (top : Activation) (below : List Activation) (h : Objects) → Fits p typing live of (top ∷ below) h → (index : List ℕ) → IsIndexName index → (why : EndCause) (c : ClassId) → raised_class p index why ≡ Some c →
      (n : ℕ) → of n ≡ None → (f : Activation) (fs : List Activation) → thrown p c (Ref n) top below ≡ f ∷ fs → Fits p typing live (with_class of n (class_type c.0)) (f ∷ fs) (insert h n (new_object p c))
  pub asked : (of : Classes) (id : MethodId) (args : List Value) (frames : List Activation) (h : Objects) → AsksFit p typing live of id args frames h → (index : List ℕ) → IsIndexName index → (why : EndCause) (c : ClassId) → raised_class p index why ≡ Some c →
      (n : ℕ) → of n ≡ None → (f : Activation) (fs : List Activation) → unwound p c (Ref n) frames ≡ f ∷ fs → Fits p typing live (with_class of n (class_type c.0)) (f ∷ fs) (insert h n (new_object p c))

abbrev pub AllRaisesFit : Type 0
AllRaisesFit = (p : Program) (typing : Typing) (live : Wanted) → Keeps p → Verified p typing live → RaisesFit p typing live
