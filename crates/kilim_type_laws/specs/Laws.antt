-- Laws of well-typed code, in the words of kilim_type_spec.
use Rattle.std.specs.Prelude.{◌≡◌, ◌≤◌, ℕ, length, true, false, [], ◌∷◌, Option, Some, None, Ok, slice_get}
use Rattle.kilim_program.specs.declared.class.Handler.{Handler}
use Rattle.kilim_program.specs.declared.class.Method.{Method}
use Rattle.kilim_program.specs.declared.instr.Instr.{Instr}
use Rattle.kilim_program.specs.declared.names.MethodId.{MethodId}
use Rattle.kilim_program.specs.declared.verified.Frame.{Frame}
use Rattle.kilim_program.specs.declared.verified.VType.{VType}
use Rattle.kilim_program.specs.Keeps.{Keeps}
use Rattle.kilim_program.specs.Lengths.{fetched, is_code_place}
use Rattle.kilim_program.specs.Names.{method_at}
use Rattle.kilim_program.specs.Program.{Program}
use Rattle.kilim_type_spec.specs.Faults.{first_type_fault}
use Rattle.kilim_type_spec.specs.Step.{Types, peek, is_top, assignable, type_step}
use Rattle.kilim_type_spec.specs.Typed.{Among, FlowsInto, IsWellTyped, Live, WellTypedBy, caught_type, covers, edges, frame_types, has_code, listed, no_types, typing_of}

-- ---- assignability

abbrev pub AssignsItself : Type 0
AssignsItself = (p : Program) → Keeps p → (t : VType) → assignable p t t ≡ true

-- ---- flow edges

-- The instruction at a place steps, and what it leaves is assignable to the frame at another place of the code.
pub record Arrives (p : Program) (m : Method) (typing : ℕ → Types) (at : ℕ) (i : Instr) (to : ℕ) : Type 0 where
  pub left : Types
  pub step : type_step p m at i (typing at) ≡ Ok left
  pub place : is_code_place m.code to ≡ true
  pub flows : FlowsInto p left (typing to)

abbrev pub EdgesFlow : Type 0
EdgesFlow = (p : Program) → Keeps p → (m : Method) (typing : ℕ → Types) → WellTypedBy p m typing → (at next to : ℕ) (i : Instr) → fetched m.code m.code_length at ≡ Some (i, next) → Among (edges i next) to → Arrives p m typing at i to

-- The locals before an instruction in the range of a handler, with what it catches alone on the stack, are assignable to the frame at the
-- handler, which is a place of the code.
pub record Lands (p : Program) (m : Method) (typing : ℕ → Types) (at : ℕ) (h : Handler) : Type 0 where
  pub place : is_code_place m.code h.at ≡ true
  pub flows : FlowsInto p (record (typing at) { stack = caught_type p h.catch ∷ [] }) (typing h.at)

abbrev pub HandlersFlow : Type 0
HandlersFlow = (p : Program) → Keeps p → (m : Method) (typing : ℕ → Types) → WellTypedBy p m typing → (at next n : ℕ) (i : Instr) (h : Handler) → fetched m.code m.code_length at ≡ Some (i, next) → slice_get m.handlers n ≡ Some h → covers h at ≡ true →
    Lands p m typing at h

-- ---- live slots

-- A local that is live at a place, as some instruction reads it before it is written, isn't Top in the frame there. So a local that
-- is Top where flows meet is read by nothing behind.
abbrev pub LiveIsTyped : Type 0
LiveIsTyped = (p : Program) → Keeps p → (m : Method) (typing : ℕ → Types) → WellTypedBy p m typing → (k at : ℕ) → Live m k at → is_top (peek (typing at).locals k) ≡ false

-- ---- listed frames

-- A listed frame has the types of a place: the same in each slot, and the same stack. Its mark is that of its locals.
pub record Shows (frame : Frame) (f : Types) : Type 0 where
  pub locals : (slot : ℕ) → peek frame.locals slot ≡ peek f.locals slot
  pub stack : (frame_types frame).stack ≡ f.stack

-- no frame of a well-typed method has more locals than the method, so none is lost where each is listed up to their number
abbrev pub ListedFramesShow : Type 0
ListedFramesShow = (p : Program) (m : Method) (typing : ℕ → Types) → WellTypedBy p m typing → (at : ℕ) → is_code_place m.code at ≡ true → (length (typing at).locals ≤ m.max_locals) × Shows (listed m (typing at)) (typing at)

-- ---- programs

abbrev pub typing_in : Program → Option Method → ℕ → Types
typing_in p None at = no_types
typing_in p (Some m) at = typing_of p m at

-- the frame at each place of each method
abbrev pub typing_at : Program → MethodId → ℕ → Types
typing_at p id at = typing_in p (method_at p id) at

abbrev pub TypedByPlace : Type 0
TypedByPlace = (p : Program) → Keeps p → IsWellTyped p → (id : MethodId) (m : Method) → method_at p id ≡ Some m → has_code m ≡ true → WellTypedBy p m (typing_at p id)

-- with the law no_fault_is_well_typed of kilim_type_spec: a program is well typed exactly where it has no type fault
abbrev pub NoFaultWhereWellTyped : Type 0
NoFaultWhereWellTyped = (p : Program) → IsWellTyped p → first_type_fault p ≡ None
