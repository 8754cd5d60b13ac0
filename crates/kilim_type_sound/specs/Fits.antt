-- When the frames and the heap of a task fit the frames of verification.
use Rattle.std.specs.Prelude.{◌≡◌, ℕ, zero, suc, ℤ, pos, negsuc, int_lt, Bool, true, false, not, ◌&&◌, ◌||◌, ◌==◌, List, [], ◌∷◌, Option, Some, None, is_some, length, slice_get, codes}
use Rattle.std.specs.Ordering.{int_eq}
use Rattle.std.specs.FinMap.{get}
use Rattle.std.specs.List.{list_all}
use Rattle.kilim_program.specs.declared.class.Field.{Field}
use Rattle.kilim_program.specs.declared.class.Handler.{Handler}
use Rattle.kilim_program.specs.declared.class.Method.{Method}
use Rattle.kilim_program.specs.declared.instr.Instr.{Instr}
use Rattle.kilim_program.specs.declared.instr.Instr.TheVariants.{Newarray, Anewarray}
use Rattle.kilim_program.specs.declared.names.ClassId.{ClassId}
use Rattle.kilim_program.specs.declared.names.FieldId.{FieldId}
use Rattle.kilim_program.specs.declared.names.MethodId.{MethodId}
use Rattle.kilim_program.specs.declared.ty.Base.{Base}
use Rattle.kilim_program.specs.declared.ty.Base.TheVariants as base
use Rattle.kilim_program.specs.declared.ty.Ty.{Ty}
use Rattle.kilim_run_state.specs.declared.value.Object.{Object as HeapObject}
use Rattle.kilim_program.specs.declared.value.Value.{Value}
use Rattle.kilim_program.specs.declared.value.Value.TheVariants as value
use Rattle.kilim_program.specs.declared.verified.VType.{VType}
use Rattle.kilim_program.specs.declared.verified.VType.TheVariants.{Top, Int, Long, Null, UninitThis, Uninit, Object}
use Rattle.kilim_program.specs.Program.{Program}
use Rattle.kilim_run_state.specs.Machine.{Objects, Activation, stands_behind}
use Rattle.kilim_program.specs.BuiltIn.{class_type}
use Rattle.kilim_program.specs.Names.{class_at, method_at, field_of, class_name}
use Rattle.kilim_program.specs.Members.{object_fields, is_concrete}
use Rattle.kilim_program.specs.Keeps.{has_base}
use Rattle.kilim_program.specs.Kinds.{is_value_class}
use Rattle.kilim_program.specs.Members.{named_type}
use Rattle.kilim_program.specs.Fits.{fits_type, is_reference_base}
use Rattle.kilim_program.specs.Lengths.{fetched, is_reference_type}
use Rattle.kilim_type_spec.specs.Step.{Types, peek, is_top, assignable, vtype, made_at}
use Rattle.kilim_type_spec.specs.Typed.{WellTypedBy, has_code, reads, writes, edges, Among, handlers_at}

-- Of which class or array type each object is, or was before it left the heap, by its name. No name is used twice.
abbrev pub Classes : Type 0
Classes = ℕ → Option Ty

-- ---- values

abbrev pub is_of : Program → Option Ty → Ty → Bool
is_of p None ty = false
is_of p (Some c) ty = fits_type p c ty

abbrev pub is_made : Program → Option Ty → Option ClassId → Bool
is_made p c None = false
is_made p c (Some class) = is_of p c (class_type class.0)

-- A reference to an object of this class is of that type. An object that isn't initialized yet is of the class that
-- its `new` makes, `this` of a constructor of the class of the method.
abbrev pub refers : Program → Method → VType → Option Ty → Bool
refers p m (Object ty) c = is_of p c ty
refers p m UninitThis c = is_of p c (class_type m.owner.0)
refers p m (Uninit at) c = is_made p c (made_at m.code at)
refers p m t c = false

abbrev pub is_int_type : VType → Bool
is_int_type Int = true
is_int_type t = false

abbrev pub is_long_type : VType → Bool
is_long_type Long = true
is_long_type t = false

abbrev pub is_null_type : VType → Bool
is_null_type Null = true
is_null_type (Object ty) = true
is_null_type t = false

-- a value of a verification type, in a method; none is of Top
abbrev pub has_type : Program → Method → Classes → VType → Value → Bool
has_type p m of t (value.Int x) = is_int_type t
has_type p m of t (value.Long x) = is_long_type t
has_type p m of t value.Null = is_null_type t
has_type p m of t (value.Ref n) = refers p m t (of n)
has_type p m of t (value.Text units) = refers p m t (named_type p (codes "java/lang/String"))
has_type p m of t (value.Box box) = refers p m t (named_type p (codes "kilim/Mailbox"))
has_type p m of t value.Fiber = refers p m t (named_type p (codes "kilim/Fiber"))

abbrev pub have_types : Program → Method → Classes → List VType → List Value → Bool
have_types p m of [] [] = true
have_types p m of (t ∷ ts) (v ∷ vs) = has_type p m of t v && have_types p m of ts vs
have_types p m of ts vs = false

-- the value in a local slot; whatever is in one of type Top
abbrev pub Holds : Program → Method → Classes → VType → Option Value → Type 0
Holds p m of Top o = Unit {0}
Holds p m of t None = ⊥
Holds p m of t (Some v) = has_type p m of t v ≡ true

-- the slots that are wanted, by their types
pub record LocalsFit (p : Program) (m : Method) (of : Classes) (wanted : ℕ → Bool) (ts : List VType) (ls : List Value) : Type 0 where
  pub room : length ls ≡ m.max_locals
  pub slots : (k : ℕ) → wanted k ≡ true → Holds p m of (peek ts k) (slice_get ls k)

-- ---- objects

abbrev pub int_fits : Base → ℤ → Bool
int_fits base.Bool x = int_eq x (pos 0) || int_eq x (pos 1)
int_fits base.Byte x = not (int_lt x (negsuc 127)) && int_lt x (pos 128)
int_fits base.Char x = not (int_lt x (pos 0)) && int_lt x (pos 65536)
int_fits base.Short x = not (int_lt x (negsuc 32767)) && int_lt x (pos 32768)
int_fits base.Int x = true
int_fits b x = false

abbrev pub is_long_base : Base → Bool
is_long_base base.Long = true
is_long_base b = false

-- a value of a declared type: a boolean is 0 or 1, bytes, chars and shorts are in their ranges
abbrev pub is_value_of : Program → Classes → Ty → Value → Bool
is_value_of p of ty (value.Int x) = ty.dims == 0 && int_fits ty.base x
is_value_of p of ty (value.Long x) = ty.dims == 0 && is_long_base ty.base
is_value_of p of ty value.Null = not (ty.dims == 0) || is_reference_base ty.base
is_value_of p of ty (value.Ref n) = is_of p (of n) ty
is_value_of p of ty (value.Text units) = is_of p (named_type p (codes "java/lang/String")) ty
is_value_of p of ty (value.Box box) = is_of p (named_type p (codes "kilim/Mailbox")) ty
is_value_of p of ty value.Fiber = is_of p (named_type p (codes "kilim/Fiber")) ty

abbrev pub FieldFits : Program → Classes → Option Field → Value → Type 0
FieldFits p of None v = ⊥
FieldFits p of (Some field) v = is_value_of p of field.ty v ≡ true

-- just these fields, in order, each with a value of its type
abbrev pub FieldsFit : Program → Classes → List FieldId → List (FieldId × Value) → Type 0
FieldsFit p of [] [] = Unit {0}
FieldsFit p of (f ∷ fs) (e ∷ es) = (e.0 ≡ f) × FieldFits p of (field_of p f) e.1 × FieldsFit p of fs es
FieldsFit p of fs es = ⊥

-- a class that isn't abstract, and whose instances are objects: strings, mailboxes and fibers are values
abbrev pub has_objects : Program → ClassId → Bool
has_objects p c = is_concrete (class_at p c) && not (is_value_class (class_name p c))

-- an object by the dimensions and the base of its class; the class of an array's elements is there
abbrev pub ContentFits : Program → Classes → ℕ → Base → HeapObject → Type 0
ContentFits p of zero (base.Class c) o = (has_objects p c ≡ true) × FieldsFit p of (object_fields p c) o.fields × (o.elements ≡ [])
ContentFits p of zero b o = ⊥
ContentFits p of (suc n) b o = (o.fields ≡ []) × (list_all (is_value_of p of (record { dims = n; base = b })) o.elements ≡ true) × (has_base p b ≡ true)

abbrev pub ObjectFits : Program → Classes → HeapObject → Type 0
ObjectFits p of o = ContentFits p of o.class.dims o.class.base o

pub record HeapFits (p : Program) (of : Classes) (h : Objects) : Type 0 where
  pub proper : (n : ℕ) (c : Ty) → of n ≡ Some c → is_reference_type c.dims c.base ≡ true
  pub classes : (n : ℕ) (o : HeapObject) → get h n ≡ Some o → of n ≡ Some o.class
  pub objects : (n : ℕ) (o : HeapObject) → get h n ≡ Some o → ObjectFits p of o

-- ---- frames

-- what a frame still gets on top of its stack
pub data Awaited : Type 0 where
  Nothing : Awaited
  -- the result of a call
  AValue : VType → Awaited
  -- a reference to an object of this class
  AReference : Option Ty → Awaited

abbrev pub StackFits : Program → Method → Classes → Awaited → List VType → List Value → Type 0
StackFits p m of Nothing ts vs = have_types p m of ts vs ≡ true
StackFits p m of (AValue t) (u ∷ ts) vs = (assignable p t u ≡ true) × (is_top u ≡ false) × (have_types p m of ts vs ≡ true)
StackFits p m of (AReference c) (u ∷ ts) vs = (refers p m u c ≡ true) × (have_types p m of ts vs ≡ true)
StackFits p m of a [] vs = ⊥

-- the frames of verification, by method and place, and which locals are wanted there
abbrev pub Typing : Type 0
Typing = MethodId → ℕ → Types

abbrev pub Wanted : Type 0
Wanted = MethodId → ℕ → ℕ → Bool

pub record FrameFits (p : Program) (typing : Typing) (live : Wanted) (of : Classes) (awaited : Awaited) (a : Activation) : Type 0 where
  pub method : Method
  pub there : method_at p a.method ≡ Some method
  pub code : has_code method ≡ true
  pub stands : is_some (fetched method.code method.code_length a.place) ≡ true
  pub locals : LocalsFit p method of (live a.method a.place) (typing a.method a.place).locals a.locals
  pub stack : StackFits p method of awaited (typing a.method a.place).stack a.stack

abbrev pub result_awaited : Option Ty → Awaited
result_awaited None = Nothing
result_awaited (Some ty) = AValue (vtype ty)

abbrev pub result_of : Option Method → Option Ty
result_of None = None
result_of (Some method) = method.result

-- A frame stands behind its call, and its locals fit the frame of verification before the call too: a call changes none. So what is live at
-- a handler of the call alone has its type there.
pub record StandsAtCall (p : Program) (typing : Typing) (live : Wanted) (of : Classes) (a : Activation) : Type 0 where
  pub method : Method
  pub there : method_at p a.method ≡ Some method
  pub code : has_code method ≡ true
  pub call : ℕ × Instr
  pub here : fetched method.code method.code_length call.0 ≡ Some (call.1, a.place)
  pub behind : stands_behind method.code method.code_length a.place ≡ Some call
  pub locals : LocalsFit p method of (live a.method call.0) (typing a.method call.0).locals a.locals

-- the frames below one of a method with that result, each behind its call
abbrev pub BelowFit : Program → Typing → Wanted → Classes → Option Ty → List Activation → Type 0
BelowFit p typing live of result [] = Unit {0}
BelowFit p typing live of result (a ∷ as1) =
    FrameFits p typing live of (result_awaited result) a × StandsAtCall p typing live of a × BelowFit p typing live of (result_of (method_at p a.method)) as1

abbrev pub FramesFit : Program → Typing → Wanted → Classes → Awaited → List Activation → Type 0
FramesFit p typing live of awaited [] = Unit {0}
FramesFit p typing live of awaited (top ∷ below) = FrameFits p typing live of awaited top × BelowFit p typing live of (result_of (method_at p top.method)) below

-- A task's frames and heap fit the frames of verification.
pub record Fits (p : Program) (typing : Typing) (live : Wanted) (of : Classes) (calls : List Activation) (h : Objects) : Type 0 where
  pub frames : FramesFit p typing live of Nothing calls
  pub heap : HeapFits p of h

-- ---- what is in the heap

abbrev pub IsThere : Objects → Value → Type 0
IsThere h (value.Ref n) = (o : HeapObject) × (get h n ≡ Some o)
IsThere h v = Unit {0}

abbrev pub AreThere : Objects → List Value → Type 0
AreThere h [] = Unit {0}
AreThere h (v ∷ vs) = IsThere h v × AreThere h vs

-- ---- the program

-- a table of wanted locals: each that is read, and each that is wanted behind and isn't written
pub record WantsAt (handlers : List Handler) (live : ℕ → ℕ → Bool) (at next : ℕ) (i : Instr) : Type 0 where
  pub read : (k : ℕ) → reads i k ≡ true → live at k ≡ true
  pub flow : (q k : ℕ) → Among (edges i next) q → live q k ≡ true → writes i k ≡ false → live at k ≡ true
  pub caught : (q k : ℕ) → Among (handlers_at handlers at) q → live q k ≡ true → live at k ≡ true

-- what a new array of references holds is a class or an array, and the class is there
abbrev pub IsProper : Program → Instr → Type 0
IsProper p (Newarray b) = has_base p b ≡ true
IsProper p (Anewarray ty) = (is_reference_type ty.dims ty.base ≡ true) × (has_base p ty.base ≡ true)
IsProper p i = Unit {0}

-- The methods of a program fit these frames of verification and these wanted locals: each with code is well typed by
-- the frames, begins at 0, and wants what is read.
pub record Verified (p : Program) (typing : Typing) (live : Wanted) : Type 0 where
  pub typed : (id : MethodId) (m : Method) → method_at p id ≡ Some m → has_code m ≡ true → WellTypedBy p m (typing id)
  pub starts : (id : MethodId) (m : Method) → method_at p id ≡ Some m → has_code m ≡ true → (e : ℕ × Instr) × (es : List (ℕ × Instr)) × (m.code ≡ e ∷ es) × (e.0 ≡ 0)
  pub wants : (id : MethodId) (m : Method) → method_at p id ≡ Some m → (at : ℕ) (found : Instr × ℕ) → fetched m.code m.code_length at ≡ Some found → WantsAt m.handlers (live id) at found.1 found.0
  pub proper : (id : MethodId) (m : Method) → method_at p id ≡ Some m → (at : ℕ) (found : Instr × ℕ) → fetched m.code m.code_length at ≡ Some found → IsProper p found.0
  -- the instruction behind which its next place stands is this one: places increase
  pub behind : (id : MethodId) (m : Method) → method_at p id ≡ Some m → (at next : ℕ) (i : Instr) → fetched m.code m.code_length at ≡ Some (i, next) → stands_behind m.code m.code_length next ≡ Some (at, i)
