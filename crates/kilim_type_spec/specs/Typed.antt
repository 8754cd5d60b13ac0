-- Well-typed methods (JVMS 4.10.1): the walk through the code in order, with the declared frames alone where flows meet; and
-- live slots.
use Rattle.std.specs.Prelude.{◌≡◌, ◌⊎◌, ℕ, zero, suc, Result, Ok, Err, Bool, true, false, ◌||◌, ◌&&◌, not, ◌==◌, nat_lt, nat_le, if◌then◌else◌, List, [], ◌∷◌, ◌++◌, Option, Some, None, is_some, unwrap_or, length, map, reverse}
use Rattle.std.specs.List.{list_all, list_any}
use Rattle.kilim_program.specs.declared.class.Handler.{Handler}
use Rattle.kilim_program.specs.declared.class.Method.{Method}
use Rattle.kilim_program.specs.declared.instr.Instr.{Instr}
use Rattle.kilim_program.specs.declared.instr.Instr.TheVariants.{Iload, Lload, Aload, Istore, Lstore, Astore, Iinc}
use Rattle.kilim_program.specs.declared.names.ClassId.{ClassId}
use Rattle.kilim_program.specs.declared.names.MethodId.{MethodId}
use Rattle.kilim_program.specs.declared.ty.Ty.{Ty}
use Rattle.kilim_program.specs.declared.verified.Frame.{Frame}
use Rattle.kilim_program.specs.declared.verified.VType.{VType}
use Rattle.kilim_program.specs.declared.verified.VType.TheVariants.{Top, Long, UninitThis, Uninit, Object}
use Rattle.kilim_program.specs.Program.{Program}
use Rattle.kilim_program.specs.Lengths.{jump_targets, ends_path, is_code_place, fetched}
pub use Rattle.kilim_program.specs.Handlers.{covers, is_throwable}
use Rattle.kilim_program.specs.Names.{method_at, is_empty}
use Rattle.kilim_program.specs.Same.{is_constructor, argument_slots}
use Rattle.kilim_type_spec.specs.Step.{Types, peek, is_top, is_long, is_unset_this, is_object, words, assignable, vtype, class_vtype, made_at, throwable_type, type_step}

-- ---- declared frames

abbrev pub frame_types : Frame → Types
frame_types frame = record { locals = frame.locals; stack = reverse frame.stack; unset = list_any is_unset_this frame.locals }

abbrev pub frame_in : List (ℕ × Frame) → ℕ → Option Types
frame_in [] at = None
frame_in (e ∷ es) at = if e.0 == at then Some (frame_types e.1) else frame_in es at

abbrev pub declared : Method → ℕ → Option Types
declared m at = frame_in m.frames at

-- rule 12
abbrev pub stands_at_new : Method → VType → Bool
stands_at_new m (Uninit at) = is_some (made_at m.code at)
stands_at_new m t = true

-- a long in a local has its second half behind it
abbrev pub halves : List VType → Bool
halves [] = true
halves (t ∷ ts) = (not (is_long t) || (nat_lt 0 (length ts) && is_top (peek ts 0))) && halves ts

-- an object's type is a class or an array
abbrev pub is_proper : VType → Bool
is_proper (Object ty) = is_object (vtype ty)
is_proper t = true

abbrev pub frame_fits : Method → ℕ × Frame → Bool
frame_fits m e =
    is_code_place m.code e.0
    && (nat_le (length e.1.locals) m.max_locals
    && (nat_le (words e.1.stack) m.max_stack
    && (not (list_any is_top e.1.stack)
    && (list_all (stands_at_new m) (e.1.locals ++ e.1.stack)
    && (halves e.1.locals
    && (list_all is_proper (e.1.locals ++ e.1.stack)
    && (is_constructor m || not (list_any is_unset_this (e.1.locals ++ e.1.stack)))))))))

-- ---- flow

abbrev pub all_assignable : Program → List VType → List VType → Bool
all_assignable p [] [] = true
all_assignable p (a ∷ rest) (b ∷ bs) = assignable p a b && all_assignable p rest bs
all_assignable p _ _ = false

-- rule 1
pub record FlowsInto (p : Program) (f d : Types) : Type 0 where
  pub locals : (slot : ℕ) → assignable p (peek f.locals slot) (peek d.locals slot) ≡ true
  pub stack : all_assignable p f.stack d.stack ≡ true
  pub unset : f.unset ≡ true → d.unset ≡ true

-- at each target a frame is declared (rule 2), and the flow fits it
abbrev pub Jumps : Program → Method → Types → List ℕ → Type 0
Jumps p m g [] = Unit {0}
Jumps p m g (to ∷ tos) = ((d : Types) × (declared m to ≡ Some d) × FlowsInto p g d) × Jumps p m g tos

-- the frame at a place is the one declared there, or else what flows there from the instruction above
abbrev pub Here : Program → Option Types → Option Types → Types → Type 0
Here p None (Some d) f = f ≡ d
Here p (Some g) (Some d) f = (f ≡ d) × FlowsInto p g d
Here p (Some g) None f = f ≡ g
Here p None None f = ⊥

abbrev pub goes_on : Bool → Types → Option Types
goes_on true g = None
goes_on false g = Some g

abbrev pub Typed : Program → Method → Option Types → List (ℕ × Instr) → Type 0
Typed p m flow [] = flow ≡ None
Typed p m flow (e ∷ es) =
    (f : Types) × Here p flow (declared m e.0) f × (g : Types) × (type_step p m e.0 e.1 f ≡ Ok g) × Jumps p m g (jump_targets e.1) × Typed p m (goes_on (ends_path e.1) g) es

-- the same, where the frames are those that are given by place
abbrev pub TypedBy : Program → Method → (ℕ → Types) → Option Types → List (ℕ × Instr) → Type 0
TypedBy p m typing flow [] = flow ≡ None
TypedBy p m typing flow (e ∷ es) =
    Here p flow (declared m e.0) (typing e.0) × (g : Types) × (type_step p m e.0 e.1 (typing e.0) ≡ Ok g) × Jumps p m g (jump_targets e.1) × TypedBy p m typing (goes_on (ends_path e.1) g) es

-- ---- a method

abbrev pub this_types : Method → List VType
this_types m = if m.is_static then [] else (if is_constructor m then UninitThis else class_vtype m.owner) ∷ []

abbrev pub slots_of_type : VType → List VType → List VType
slots_of_type Long rest = Long ∷ Top ∷ rest
slots_of_type t rest = t ∷ rest

abbrev pub param_slots : List Ty → List VType
param_slots [] = []
param_slots (ty ∷ tys) = slots_of_type (vtype ty) (param_slots tys)

-- the frame with which a method begins
abbrev pub entry : Method → Types
entry m = record { locals = this_types m ++ param_slots m.params; stack = []; unset = not m.is_static && is_constructor m }

-- ---- the frame at each place, in code order

-- at a place: the frame declared there, or else what flows there
abbrev pub arriving : Option Types → Option Types → Option Types
arriving flow None = flow
arriving flow (Some d) = Some d

abbrev pub no_types : Types
no_types = record { locals = []; stack = []; unset = false }

-- what an instruction leaves to the place behind it
abbrev pub flows_on : Bool → Result Types ℕ → Option Types
flows_on ends (Err n) = None
flows_on ends (Ok g) = goes_on ends g

abbrev pub left_by : Program → Method → ℕ × Instr → Option Types → Option Types
left_by p m e None = None
left_by p m e (Some f) = flows_on (ends_path e.1) (type_step p m e.0 e.1 f)

abbrev pub frames_from : Program → Method → Option Types → List (ℕ × Instr) → List Types
frames_from p m flow [] = []
frames_from p m flow (e ∷ es) =
    unwrap_or (arriving flow (declared m e.0)) no_types ∷ frames_from p m (left_by p m e (arriving flow (declared m e.0))) es

-- of a well-typed method: a frame for each of its instructions
abbrev pub frames_of : Program → Method → List Types
frames_of p m = frames_from p m (Some (entry m)) m.code

abbrev pub frame_among : List (ℕ × Instr) → List Types → ℕ → Types
frame_among [] fs at = no_types
frame_among (e ∷ es) [] at = no_types
frame_among (e ∷ es) (f ∷ fs) at = if e.0 == at then f else frame_among es fs at

-- the frame at a place of a well-typed method
unfoldable pub typing_of : Program → Method → ℕ → Types
typing_of p m at = frame_among m.code (frames_of p m) at

-- ---- exception tables (JVMS 4.7.3, 4.10.1.6)

-- the places of the handlers whose ranges have a place, in order
abbrev pub handlers_at : List Handler → (at : ℕ) → List ℕ
handlers_at [] at = []
handlers_at (h ∷ hs) at = if covers h at then h.at ∷ handlers_at hs at else handlers_at hs at

-- what an entry catches: everything that can be thrown, where it names no class
abbrev pub caught_type : Program → Option ClassId → VType
caught_type p None = throwable_type p
caught_type p (Some c) = class_vtype c

abbrev pub catch_fits : Program → Option ClassId → Bool
catch_fits p None = true
catch_fits p (Some c) = is_throwable p c

-- Rule 15, and rule 16 of a place: before an instruction in the range of an entry `this` is initialized, and the locals, with what is caught
-- alone on the stack, flow into the frame that is declared at the handler.
pub record IsCaught (p : Program) (m : Method) (f : Types) (h : Handler) : Type 0 where
  pub frame : Types
  pub there : declared m h.at ≡ Some frame
  pub flows : FlowsInto p (record f { stack = caught_type p h.catch ∷ [] }) frame
  pub set : f.unset ≡ false

-- rule 16 of a catch type stands at the beginning of the range
pub record IsHandled (p : Program) (m : Method) (at : ℕ) (f : Types) (h : Handler) : Type 0 where
  pub within : covers h at ≡ true → IsCaught p m f h
  pub begins : (h.start == at) ≡ true → catch_fits p h.catch ≡ true

abbrev pub AreHandled : Program → Method → (at : ℕ) → Types → List Handler → Type 0
AreHandled p m at f [] = Unit {0}
AreHandled p m at f (h ∷ hs) = IsHandled p m at f h × AreHandled p m at f hs

-- at each instruction, under the frame there
abbrev pub Handles : Program → Method → List (ℕ × Instr) → List Types → Type 0
Handles p m [] fs = Unit {0}
Handles p m (e ∷ es) [] = ⊥
Handles p m (e ∷ es) (f ∷ fs) = AreHandled p m e.0 f m.handlers × Handles p m es fs

abbrev pub HandlesBy : Program → Method → (ℕ → Types) → List (ℕ × Instr) → Type 0
HandlesBy p m typing [] = Unit {0}
HandlesBy p m typing (e ∷ es) = AreHandled p m e.0 (typing e.0) m.handlers × HandlesBy p m typing es

-- ---- a well-typed method

pub record WellTyped (p : Program) (m : Method) : Type 0 where
  pub arguments : nat_le (argument_slots m) m.max_locals ≡ true
  pub frames : list_all (frame_fits m) m.frames ≡ true
  pub walk : Typed p m (Some (entry m)) m.code
  pub handled : Handles p m m.code (frames_of p m)

pub record WellTypedBy (p : Program) (m : Method) (typing : ℕ → Types) : Type 0 where
  pub arguments : nat_le (argument_slots m) m.max_locals ≡ true
  pub frames : list_all (frame_fits m) m.frames ≡ true
  pub walk : TypedBy p m typing (Some (entry m)) m.code
  pub handled : HandlesBy p m typing m.code

-- ---- a program

abbrev pub has_code : Method → Bool
has_code m = not (is_empty m.code)

-- each method with code is well typed
pub record IsWellTyped (p : Program) : Type 0 where
  pub methods : (id : MethodId) (m : Method) → method_at p id ≡ Some m → has_code m ≡ true → WellTyped p m

-- ---- frames as they are listed

-- the first so many slots, Top where none is listed
abbrev pub padded : ℕ → List VType → List VType
padded zero ts = []
padded (suc n) [] = Top ∷ padded n []
padded (suc n) (t ∷ ts) = t ∷ padded n ts

-- a frame as it is listed: each local up to max_locals, the stack from the bottom
abbrev pub listed : Method → Types → Frame
listed m f = record { locals = padded m.max_locals f.locals; stack = reverse f.stack }

-- the frames of each method, by number
abbrev pub listed_frames : Program → List (List Frame)
listed_frames p = map (λ m. map (listed m) (frames_of p m)) p.methods

-- ---- live slots

abbrev pub reads : Instr → ℕ → Bool
reads (Iload n) k = n == k
reads (Lload n) k = n == k
reads (Aload n) k = n == k
reads (Iinc n by) k = n == k
reads _ k = false

abbrev pub writes : Instr → ℕ → Bool
writes (Istore n) k = n == k
writes (Astore n) k = n == k
writes (Lstore n) k = n == k || suc n == k
writes (Iinc n by) k = n == k
writes _ k = false

abbrev pub Among : List ℕ → ℕ → Type 0
Among [] x = ⊥
Among (y ∷ ys) x = (y ≡ x) ⊎ Among ys x

abbrev pub edges : Instr → ℕ → List ℕ
edges i to = if ends_path i then jump_targets i else to ∷ jump_targets i

-- Some list of flow edges, and of edges to handlers, from a place reads the local before it is written. An instruction that raises has
-- written nothing.
pub data Live (m : Method) (k : ℕ) : ℕ → Type 0 where
  ReadsIt : (p to : ℕ) (i : Instr) → fetched m.code m.code_length p ≡ Some (i, to) → reads i k ≡ true → Live m k p
  GoesOn : (p to q : ℕ) (i : Instr) → fetched m.code m.code_length p ≡ Some (i, to) → writes i k ≡ false → Among (edges i to) q → Live m k q → Live m k p
  Catches : (p to q : ℕ) (i : Instr) → fetched m.code m.code_length p ≡ Some (i, to) → Among (handlers_at m.handlers p) q → Live m k q → Live m k p

-- a table of live slots
abbrev pub IsLive : Method → (ℕ → ℕ → Bool) → Type 0
IsLive m live = (p k : ℕ) → ((live p k ≡ true → Live m k p) × (Live m k p → live p k ≡ true))
