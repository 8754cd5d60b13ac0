-- The woven form of a method with pausable calls (own, after Srinivasan and Mycroft, "Kilim: Isolation-Typed Actors for Java", 2008,
-- section 4): its instructions with their declared frames in one list, laid out.
--
-- The method is handed the fiber as its last argument. A prologue keeps fiber and receiver in locals of their own and jumps to where the
-- fiber paused. Each call of a pausable method becomes a group: the fiber goes down a level, the call, the fiber goes up; where it is
-- pausing, what is live is saved and the method returns a dummy. Behind the old code stands for each such call a block that brings
-- back what was saved and makes the call again.
use Rattle.std.specs.Prelude.{◌≡◌, ℕ, zero, suc, ◌+◌, ◌-◌, ◌*◌, Bool, true, false, ◌||◌, ◌&&◌, not, nat_lt, nat_le, if◌then◌else◌, ℤ, pos, List, [], ◌∷◌, ◌++◌, Option, Some, None, is_some, length, reverse, map, drop}
use Rattle.kilim_program.specs.declared.class.Method.{Method}
use Rattle.kilim_program.specs.declared.instr.Instr.{Instr}
use Rattle.kilim_program.specs.declared.instr.Instr.TheVariants.{AconstNull, Iconst, Lconst, Bipush, Sipush, Iload, Lload, Aload, Istore, Lstore, Astore, Pop, Pop2, Ifeq, Ifne, Iflt, Ifge, Ifgt, Ifle, IfIcmpeq, IfIcmpne, IfIcmplt, IfIcmpge, IfIcmpgt, IfIcmple, IfAcmpeq, IfAcmpne, Goto, Tableswitch, Lookupswitch, Ireturn, Lreturn, Areturn, Return, Invokevirtual, Invokespecial, Invokestatic, Checkcast, Ifnull, Ifnonnull, GotoW}
use Rattle.kilim_program.specs.declared.names.ClassId.{ClassId}
use Rattle.kilim_program.specs.declared.names.MethodId.{MethodId}
use Rattle.kilim_program.specs.declared.ty.Qualifier.TheVariants.{Safe}
use Rattle.kilim_program.specs.declared.ty.Ty.{Ty}
use Rattle.kilim_program.specs.declared.verified.Frame.{Frame}
use Rattle.kilim_program.specs.declared.verified.VType.{VType}
use Rattle.kilim_program.specs.declared.verified.VType.TheVariants.{Top, Int, Long, Null, Uninit, Object}
use Rattle.kilim_program.specs.Program.{Program}
use Rattle.kilim_program.specs.BuiltIn.{class_id, method_id, class_type}
use Rattle.kilim_program.specs.Names.{method_at}
use Rattle.kilim_program.specs.Lengths.{switch_padding}
use Rattle.kilim_program.specs.Lengths.{first_place}
use Rattle.kilim_program.specs.Same.{argument_slots}
use Rattle.kilim_type_spec.specs.Step.{Types, peek, is_top, vtype, class_vtype}
use Rattle.kilim_type_spec.specs.Typed.{declared}

-- ---- what a woven method is made from

pub record Plan : Type 0 where
  -- the program, the method
  pub program : Program
  pub method : Method
  -- the frame at each place, and which locals are live there
  pub typing : ℕ → Types
  pub live : ℕ → ℕ → Bool
  -- the new place of an old one (of numbers that are no places it is free, but for being different), and the place of the resume
  -- block of a pausable call, by its number from 1
  pub at : ℕ → ℕ
  pub block : ℕ → ℕ

-- ---- the fiber

abbrev pub fiber_class : Program → ClassId
fiber_class p = class_id (length p.classes)

abbrev pub fiber : Program → VType
fiber p = class_vtype (fiber_class p)

-- as a parameter's type
abbrev pub fiber_ty : Program → Ty
fiber_ty p = class_type (length p.classes)

-- the members of `kilim/Fiber` come last
abbrev pub member : Program → ℕ → MethodId
member p n = method_id (length p.methods + n)

abbrev pub larger : ℕ → ℕ → ℕ
larger a b = if nat_lt a b then b else a

-- the local of the fiber, and that of the receiver
abbrev pub fiber_slot : Method → ℕ
fiber_slot m = larger m.max_locals (suc (argument_slots m))

abbrev pub self_slot : Method → ℕ
self_slot m = suc (fiber_slot m)

-- ---- moved places

abbrev pub moved_type : (ℕ → ℕ) → VType → VType
moved_type at (Uninit place) = Uninit (at place)
moved_type at t = t

abbrev pub moved_pairs : (ℕ → ℕ) → List (ℤ × ℕ) → List (ℤ × ℕ)
moved_pairs at [] = []
moved_pairs at (e ∷ es) = (e.0, at e.1) ∷ moved_pairs at es

abbrev pub moved_instr : (ℕ → ℕ) → Instr → Instr
moved_instr at (Ifeq to) = Ifeq (at to)
moved_instr at (Ifne to) = Ifne (at to)
moved_instr at (Iflt to) = Iflt (at to)
moved_instr at (Ifge to) = Ifge (at to)
moved_instr at (Ifgt to) = Ifgt (at to)
moved_instr at (Ifle to) = Ifle (at to)
moved_instr at (IfIcmpeq to) = IfIcmpeq (at to)
moved_instr at (IfIcmpne to) = IfIcmpne (at to)
moved_instr at (IfIcmplt to) = IfIcmplt (at to)
moved_instr at (IfIcmpge to) = IfIcmpge (at to)
moved_instr at (IfIcmpgt to) = IfIcmpgt (at to)
moved_instr at (IfIcmple to) = IfIcmple (at to)
moved_instr at (IfAcmpeq to) = IfAcmpeq (at to)
moved_instr at (IfAcmpne to) = IfAcmpne (at to)
moved_instr at (Goto to) = Goto (at to)
moved_instr at (Tableswitch default low targets) = Tableswitch (at default) low (map at targets)
moved_instr at (Lookupswitch default pairs) = Lookupswitch (at default) (moved_pairs at pairs)
moved_instr at (Ifnull to) = Ifnull (at to)
moved_instr at (Ifnonnull to) = Ifnonnull (at to)
moved_instr at (GotoW to) = GotoW (at to)
moved_instr at i = i

-- ---- items

-- which place of the method's plan stands there: an old place, a resume block
pub data Label : Type 0 where
  Old : (place : ℕ) → Label
  Resumes : (number : ℕ) → Label

-- As in the standard, declared frames stand among the instructions.
pub data Item : Type 0 where
  Mark : Label → Option Frame → Item
  -- an instruction, its length in bytes at a place, and whether it counts
  Does : Instr → (ℕ → ℕ) → Bool → Item

abbrev pub added : Instr → ℕ → Item
added i n = Does i (λ place. n) false

-- the shortest form of a load or a store
abbrev pub local_size : ℕ → ℕ
local_size slot = if nat_lt slot 4 then 1 else (if nat_lt slot 256 then 2 else 4)

abbrev pub load_fiber : Plan → Item
load_fiber x = added (Aload (fiber_slot x.method)) (local_size (fiber_slot x.method))

-- a member of the fiber, by its place among them
abbrev pub calls_member : Plan → ℕ → Item
calls_member x n = added (Invokevirtual (member x.program n)) 3

abbrev pub calls_static : Plan → ℕ → Item
calls_static x n = added (Invokestatic (member x.program n)) 3

-- the type's load, store and constant
abbrev pub load_of : ℕ → VType → Instr
load_of slot Int = Iload slot
load_of slot Long = Lload slot
load_of slot t = Aload slot

abbrev pub store_of : ℕ → VType → Instr
store_of slot Int = Istore slot
store_of slot Long = Lstore slot
store_of slot t = Astore slot

abbrev pub dummy_of : VType → Instr
dummy_of Int = Iconst (pos 0)
dummy_of Long = Lconst (pos 0)
dummy_of t = AconstNull

abbrev pub return_of : VType → Instr
return_of Int = Ireturn
return_of Long = Lreturn
return_of t = Areturn

abbrev pub pop_of : VType → Instr
pop_of Long = Pop2
pop_of t = Pop

-- ---- saves and restores. Each stretch is given the items behind it.

-- the value on top of the stack. A null isn't saved.
abbrev pub save : Plan → VType → List Item → List Item
save x Int rest = load_fiber x ∷ calls_static x 3 ∷ rest
save x Long rest = load_fiber x ∷ calls_static x 4 ∷ rest
save x (Object ty) rest = load_fiber x ∷ calls_static x 5 ∷ rest
save x t rest = added Pop 1 ∷ rest

-- the stack, the top first
abbrev pub save_stack : Plan → List VType → List Item → List Item
save_stack x [] rest = rest
save_stack x (t ∷ ts) rest = save x t (save_stack x ts rest)

abbrev pub save_local : Plan → ℕ → VType → List Item → List Item
save_local x slot Null rest = rest
save_local x slot t rest = added (load_of slot t) (local_size slot) ∷ save x t rest

abbrev pub save_locals : Plan → List (ℕ × VType) → List Item → List Item
save_locals x [] rest = rest
save_locals x (e ∷ es) rest = save_local x e.0 e.1 (save_locals x es rest)

-- pushes the value that was saved last
abbrev pub restore : Plan → VType → List Item → List Item
restore x Int rest = load_fiber x ∷ calls_member x 7 ∷ rest
restore x Long rest = load_fiber x ∷ calls_member x 8 ∷ rest
restore x (Object ty) rest = load_fiber x ∷ calls_member x 9 ∷ added (Checkcast ty) 3 ∷ rest
restore x t rest = added AconstNull 1 ∷ rest

-- the opposite order
abbrev pub restore_stack : Plan → List VType → List Item → List Item
restore_stack x [] rest = rest
restore_stack x (t ∷ ts) rest = restore_stack x ts (restore x t rest)

abbrev pub restore_local : Plan → ℕ → VType → List Item → List Item
restore_local x slot t rest = restore x t (added (store_of slot t) (local_size slot) ∷ rest)

abbrev pub restore_locals : Plan → List (ℕ × VType) → List Item → List Item
restore_locals x [] rest = rest
restore_locals x (e ∷ es) rest = restore_locals x es (restore_local x e.0 e.1 rest)

-- ---- frames

abbrev pub slots_from : ℕ → ℕ → (ℕ → VType) → List VType
slots_from k zero f = []
slots_from k (suc n) f = f k ∷ slots_from (suc k) n f

abbrev pub self_types : Method → List VType
self_types m = if m.is_static then [] else class_vtype m.owner ∷ []

abbrev pub added_types : Plan → List VType
added_types x = fiber x.program ∷ self_types x.method

-- a local that isn't live is Top
abbrev pub live_type : Bool → VType → VType
live_type true t = t
live_type false t = Top

abbrev pub kept_local : Plan → ℕ → ℕ → VType
kept_local x place slot = live_type (x.live place slot) (moved_type x.at (peek (x.typing place).locals slot))

-- the frame at an old place, and that at a resume block
abbrev pub old_frame : Plan → ℕ → Frame
old_frame x place = record {
  locals = slots_from 0 (fiber_slot x.method) (kept_local x place) ++ added_types x;
  stack = reverse (map (moved_type x.at) (x.typing place).stack);
}

abbrev pub resume_frame : Plan → Frame
resume_frame x = record { locals = slots_from 0 (fiber_slot x.method) (λ slot. Top) ++ added_types x; stack = [] }

-- ---- old code

abbrev pub if_pausable : Method → Option Method
if_pausable m = if m.pausable then Some m else None

abbrev pub if_there : Option Method → Option Method
if_there None = None
if_there (Some m) = if_pausable m

-- the method that a pausable call names
abbrev pub pausable_callee : Program → Instr → Option Method
pausable_callee p (Invokevirtual id) = if_there (method_at p id)
pausable_callee p (Invokespecial id) = if_there (method_at p id)
pausable_callee p (Invokestatic id) = if_there (method_at p id)
pausable_callee p i = None

-- how many stack entries it takes
abbrev pub taken : Method → ℕ
taken callee = length callee.params + (if callee.is_static then 0 else 1)

abbrev pub first_of : List VType → VType
first_of [] = Null
first_of (t ∷ ts) = t

-- the stack below its receiver and arguments, and the receiver's type
abbrev pub below : Plan → Method → ℕ → List VType
below x callee place = drop (taken callee) (x.typing place).stack

abbrev pub receiver : Plan → Method → ℕ → VType
receiver x callee place = first_of (drop (length callee.params) (x.typing place).stack)

-- the locals that are live behind it
abbrev pub saved_from : (ℕ → Bool) → ℕ → List VType → List (ℕ × VType)
saved_from live k [] = []
saved_from live k (t ∷ ts) = if live k && not (is_top t) then (k, t) ∷ saved_from live (suc k) ts else saved_from live (suc k) ts

abbrev pub saved : Plan → (place next : ℕ) → List (ℕ × VType)
saved x place next = saved_from (x.live next) 0 (x.typing place).locals

abbrev pub number_item : ℕ → Item
number_item n = if nat_le n 5 then added (Iconst (pos n)) 1 else (if nat_le n 127 then added (Bipush (pos n)) 2 else added (Sipush (pos n)) 3)

abbrev pub self_item : Plan → Item
self_item x = if x.method.is_static then added AconstNull 1 else added (Aload (self_slot x.method)) (local_size (self_slot x.method))

abbrev pub dummy_return : Option Ty → List Item → List Item
dummy_return None rest = added Return 1 ∷ rest
dummy_return (Some ty) rest = added (dummy_of (vtype ty)) 1 ∷ added (return_of (vtype ty)) 1 ∷ rest

abbrev pub drop_result : Option Ty → List Item → List Item
drop_result None rest = rest
drop_result (Some ty) rest = added (pop_of (vtype ty)) 1 ∷ rest

-- the group of a pausable call
abbrev pub leave : Plan → (number : ℕ) → Method → (place next : ℕ) → List Item → List Item
leave x number callee place next rest =
    save_stack x (below x callee place) (save_locals x (saved x place next)
    (number_item number ∷ self_item x ∷ load_fiber x ∷ calls_static x 6 ∷ dummy_return x.method.result rest))

abbrev pub group : Plan → (number : ℕ) → Method → (place next : ℕ) → Instr → List Item → List Item
group x number callee place next i rest =
    Mark (Old place) (Some (old_frame x place))
    ∷ load_fiber x ∷ calls_member x 1 ∷ Does i (λ q. 3) true
    ∷ load_fiber x ∷ calls_member x 2 ∷ added (Ifeq (x.at next)) 3
    ∷ drop_result callee.result (leave x number callee place next rest)

-- Loads and stores take their shortest form, switches are padded anew, all others keep their length.
abbrev pub old_size : Instr → ℕ → ℕ → ℕ
old_size (Iload slot) n place = local_size slot
old_size (Lload slot) n place = local_size slot
old_size (Aload slot) n place = local_size slot
old_size (Istore slot) n place = local_size slot
old_size (Lstore slot) n place = local_size slot
old_size (Astore slot) n place = local_size slot
old_size (Tableswitch default low targets) n place = 13 + (switch_padding place + 4 * length targets)
old_size (Lookupswitch default pairs) n place = 9 + (switch_padding place + 8 * length pairs)
old_size i n place = n

abbrev pub frame_if : Bool → Plan → ℕ → Option Frame
frame_if true x place = Some (old_frame x place)
frame_if false x place = None

abbrev pub piece : Option Method → Plan → (first : Bool) (number place next : ℕ) → Instr → List Item → List Item
piece None x first number place next i rest =
    Mark (Old place) (frame_if (first || is_some (declared x.method place)) x place) ∷ Does (moved_instr x.at i) (old_size i (next - place)) true ∷ rest
piece (Some callee) x first number place next i rest = group x number callee place next i rest

abbrev pub count : Option Method → ℕ → ℕ
count None number = number
count (Some callee) number = suc number

-- the old code; `first` at the first place and behind a pausable call, `number` is that of the next one
abbrev pub pieces : Plan → (first : Bool) (number : ℕ) → List (ℕ × Instr) → List Item → List Item
pieces x first number [] rest = rest
pieces x first number (e ∷ es) rest =
    piece (pausable_callee x.program e.1) x first number e.0 (first_place es x.method.code_length) e.1
    (pieces x (is_some (pausable_callee x.program e.1)) (count (pausable_callee x.program e.1) number) es rest)

-- ---- resume blocks

abbrev pub dummies : List Ty → List Item → List Item
dummies [] rest = rest
dummies (ty ∷ tys) rest = added (dummy_of (vtype ty)) 1 ∷ dummies tys rest

abbrev pub receiver_of : Plan → VType → List Item → List Item
receiver_of x (Object ty) rest = load_fiber x ∷ calls_member x 10 ∷ added (Checkcast ty) 3 ∷ rest
receiver_of x t rest = added AconstNull 1 ∷ rest

abbrev pub restore_receiver : Bool → Plan → VType → List Item → List Item
restore_receiver true x t rest = rest
restore_receiver false x t rest = receiver_of x t rest

abbrev pub resume_code : Plan → Method → (place next : ℕ) → List Item → List Item
resume_code x callee place next rest =
    restore_locals x (saved x place next) (restore_stack x (below x callee place)
    (restore_receiver callee.is_static x (receiver x callee place) (dummies callee.params (added (Goto (x.at place)) 3 ∷ rest))))

abbrev pub block : Option Method → Plan → (number place next : ℕ) → List Item → List Item
block None x number place next rest = rest
block (Some callee) x number place next rest = Mark (Resumes number) (Some (resume_frame x)) ∷ resume_code x callee place next rest

abbrev pub blocks : Plan → (number : ℕ) → List (ℕ × Instr) → List Item
blocks x number [] = []
blocks x number (e ∷ es) =
    block (pausable_callee x.program e.1) x number e.0 (first_place es x.method.code_length) (blocks x (count (pausable_callee x.program e.1) number) es)

-- ---- the whole

-- the resume blocks in order
abbrev pub resume_places : Plan → (number : ℕ) → List (ℕ × Instr) → List ℕ
resume_places x number [] = []
resume_places x number (e ∷ es) =
    if is_some (pausable_callee x.program e.1) then x.block number ∷ resume_places x (suc number) es else resume_places x number es

abbrev pub switch_item : Plan → Item
switch_item x = let targets = resume_places x 1 x.method.code in
    Does (Tableswitch (x.at 0) (pos 1) targets) (λ place. 13 + (switch_padding place + 4 * length targets)) false

abbrev pub keep_self : Plan → List Item → List Item
keep_self x rest = if x.method.is_static then rest else added (Aload 0) 1 ∷ added (Astore (self_slot x.method)) (local_size (self_slot x.method)) ∷ rest

abbrev pub prologue : Plan → List Item → List Item
prologue x rest =
    added (Aload (argument_slots x.method)) (local_size (argument_slots x.method)) ∷ added (Astore (fiber_slot x.method)) (local_size (fiber_slot x.method))
    ∷ keep_self x (load_fiber x ∷ calls_member x 0 ∷ switch_item x ∷ rest)

abbrev pub woven_items : Plan → List Item
woven_items x = prologue x (pieces x true 1 x.method.code (blocks x 1 x.method.code))

abbrev pub lay : ℕ → List Item → List (ℕ × Instr)
lay q [] = []
lay q (Mark label frame ∷ rest) = lay q rest
lay q (Does i size counted ∷ rest) = (q, i) ∷ lay (q + size q) rest

abbrev pub behind : ℕ → List Item → ℕ
behind q [] = q
behind q (Mark label frame ∷ rest) = behind q rest
behind q (Does i size counted ∷ rest) = behind (q + size q) rest

abbrev pub with_frame : ℕ → Option Frame → List (ℕ × Frame) → List (ℕ × Frame)
with_frame q None rest = rest
with_frame q (Some frame) rest = (q, frame) ∷ rest

abbrev pub lay_frames : ℕ → List Item → List (ℕ × Frame)
lay_frames q [] = []
lay_frames q (Mark label frame ∷ rest) = with_frame q frame (lay_frames q rest)
lay_frames q (Does i size counted ∷ rest) = lay_frames (q + size q) rest

abbrev pub marks : List Item → List Bool
marks [] = []
marks (Mark label frame ∷ rest) = marks rest
marks (Does i size counted ∷ rest) = counted ∷ marks rest

-- the plan's places are where the marks stand
abbrev pub label_stands : Plan → ℕ → Label → Type 0
label_stands x q (Old place) = x.at place ≡ q
label_stands x q (Resumes number) = x.block number ≡ q

abbrev pub Labelled : Plan → ℕ → List Item → Type 0
Labelled x q [] = Unit {0}
Labelled x q (Mark label frame ∷ rest) = label_stands x q label × Labelled x q rest
Labelled x q (Does i size counted ∷ rest) = Labelled x (q + size q) rest

-- ---- the method

-- the fiber is its last argument
abbrev pub with_fiber : Program → Method → Method
with_fiber p m = record m { params = m.params ++ (fiber_ty p ∷ []); qualifiers = m.qualifiers ++ (Safe ∷ []) }

-- four words more: a saved long and the fiber, or number, receiver and fiber, stand on what was there
abbrev pub woven_method : Plan → Method
woven_method x = record (with_fiber x.program x.method) {
  max_stack = x.method.max_stack + 4;
  max_locals = fiber_slot x.method + length (added_types x);
  code_length = behind 0 (woven_items x);
  code = lay 0 (woven_items x);
  frames = lay_frames 0 (woven_items x);
}

-- the plan's places are right, the method is woven by it, and these instructions count
pub record IsWovenBy (x : Plan) (w : Method) (counted : List Bool) : Type 0 where
  pub labels : Labelled x 0 (woven_items x)
  pub differ : (a b : ℕ) → x.at a ≡ x.at b → a ≡ b
  pub method : w ≡ woven_method x
  pub counts : counted ≡ marks (woven_items x)
