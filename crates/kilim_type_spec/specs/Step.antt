-- The type step (JVMS 4.10.1.9): what an instruction makes of the types of locals and stack, or the least rule that it breaks.
use Rattle.std.specs.Prelude.{ℕ, zero, suc, ◌+◌, ◌-◌, Bool, true, false, ◌||◌, ◌&&◌, not, ◌==◌, nat_lt, nat_le, if◌then◌else◌, List, [], ◌∷◌, ◌++◌, Option, Some, None, is_none, Result, Ok, Err, length, drop, map, reverse, codes}
use Rattle.std.specs.List.{list_any}
use Rattle.kilim_program.specs.declared.class.Class.{Class}
use Rattle.kilim_program.specs.declared.class.Field.{Field}
use Rattle.kilim_program.specs.declared.class.Method.{Method}
use Rattle.kilim_program.specs.declared.instr.Instr.{Instr}
use Rattle.kilim_program.specs.declared.instr.Instr.TheVariants.{Nop, AconstNull, Iconst, Lconst, Bipush, Sipush, Ldc, LdcW, Ldc2W, Iload, Lload, Aload, Iaload, Laload, Aaload, Baload, Caload, Saload, Istore, Lstore, Astore, Iastore, Lastore, Aastore, Bastore, Castore, Sastore, Pop, Pop2, Dup, DupX1, DupX2, Dup2, Dup2X1, Dup2X2, Swap, Iadd, Ladd, Isub, Lsub, Imul, Lmul, Idiv, Ldiv, Irem, Lrem, Ineg, Lneg, Ishl, Lshl, Ishr, Lshr, Iushr, Lushr, Iand, Land, Ior, Lor, Ixor, Lxor, Iinc, I2l, L2i, I2b, I2c, I2s, Lcmp, Ifeq, Ifne, Iflt, Ifge, Ifgt, Ifle, IfIcmpeq, IfIcmpne, IfIcmplt, IfIcmpge, IfIcmpgt, IfIcmple, IfAcmpeq, IfAcmpne, Goto, Tableswitch, Lookupswitch, Ireturn, Lreturn, Areturn, Return, Getstatic, Getfield, Putfield, Invokevirtual, Invokespecial, Invokestatic, New, Newarray, Anewarray, Arraylength, Checkcast, Instanceof, Ifnull, Ifnonnull, GotoW, Athrow}
use Rattle.kilim_program.specs.declared.names.ClassId.{ClassId}
use Rattle.kilim_program.specs.declared.names.MethodId.{MethodId}
use Rattle.kilim_program.specs.declared.ty.Base.{Base}
use Rattle.kilim_program.specs.declared.ty.Base.TheVariants as base
use Rattle.kilim_program.specs.declared.ty.Ty.{Ty}
use Rattle.kilim_program.specs.declared.value.Value.{Value}
use Rattle.kilim_program.specs.declared.value.Value.TheVariants.{Int as IntValue, Long as LongValue, Text as TextValue}
use Rattle.kilim_program.specs.declared.verified.VType.{VType}
use Rattle.kilim_program.specs.declared.verified.VType.TheVariants.{Top, Int, Long, Null, UninitThis, Uninit, Object}
use Rattle.kilim_program.specs.Program.{Program}
use Rattle.kilim_program.specs.BuiltIn.{class_type}
use Rattle.kilim_program.specs.Names.{class_at, method_at, field_of, line_of, class_named}
use Rattle.kilim_program.specs.Fits.{is_named, is_reference_base, fits_type}
use Rattle.kilim_program.specs.Same.{same_base, is_constructor, selected}

-- ---- types of locals and stack

-- The types of the locals, by slot; a slot past the end is Top. Those of the stack, the top first. Whether the object
-- that a constructor makes isn't initialized yet.
pub record Types : Type 0 where
  pub locals : List VType
  pub stack : List VType
  pub unset : Bool

abbrev pub peek : List VType → ℕ → VType
peek [] k = Top
peek (t ∷ ts) zero = t
peek (t ∷ ts) (suc k) = peek ts k

abbrev pub poke : List VType → ℕ → VType → List VType
poke [] zero t = t ∷ []
poke [] (suc k) t = Top ∷ poke [] k t
poke (x ∷ xs) zero t = t ∷ xs
poke (x ∷ xs) (suc k) t = x ∷ poke xs k t

abbrev pub is_top : VType → Bool
is_top Top = true
is_top _ = false

abbrev pub is_long : VType → Bool
is_long Long = true
is_long _ = false

abbrev pub is_int : VType → Bool
is_int Int = true
is_int _ = false

abbrev pub is_object : VType → Bool
is_object (Object ty) = true
is_object _ = false

abbrev pub is_null : VType → Bool
is_null Null = true
is_null _ = false

-- of an object that isn't initialized yet
abbrev pub is_unset : VType → Bool
is_unset UninitThis = true
is_unset (Uninit at) = true
is_unset _ = false

abbrev pub is_unset_this : VType → Bool
is_unset_this UninitThis = true
is_unset_this _ = false

-- words on the stack, and local slots
abbrev pub size : VType → ℕ
size Long = 2
size _ = 1

abbrev pub words : List VType → ℕ
words [] = 0
words (t ∷ ts) = size t + words ts

-- A store into the second half of a long leaves no long.
abbrev pub split_at : Bool → List VType → ℕ → List VType
split_at true ls k = poke ls k Top
split_at false ls k = ls

abbrev pub split_long : List VType → ℕ → List VType
split_long ls zero = ls
split_long ls (suc k) = split_at (is_long (peek ls k)) ls k

-- a long takes two slots
abbrev pub with_half : VType → List VType → ℕ → List VType
with_half Long ls k = poke ls (suc k) Top
with_half _ ls k = ls

abbrev pub stored : List VType → ℕ → VType → List VType
stored ls k t = with_half t (poke (split_long ls k) k t) k

-- ---- assignability (JVMS 4.10.1.2)

abbrev pub assignable : Program → VType → VType → Bool
assignable p t Top = true
assignable p Int Int = true
assignable p Long Long = true
assignable p Null Null = true
assignable p UninitThis UninitThis = true
assignable p (Uninit a) (Uninit b) = a == b
assignable p Null (Object ty) = true
assignable p (Object a) (Object b) = fits_type p a b
assignable p _ _ = false

-- the type of a value of a declared type
abbrev pub base_vtype : Ty → Base → VType
base_vtype ty base.Long = Long
base_vtype ty (base.Class c) = Object ty
base_vtype ty b = Int

abbrev pub dims_vtype : Ty → ℕ → VType
dims_vtype ty zero = base_vtype ty ty.base
dims_vtype ty (suc n) = Object ty

abbrev pub vtype : Ty → VType
vtype ty = dims_vtype ty ty.dims

abbrev pub result_types : Option Ty → List VType
result_types None = []
result_types (Some ty) = vtype ty ∷ []

abbrev pub class_vtype : ClassId → VType
class_vtype c = Object (class_type c.0)

abbrev pub vtype_of_class : Option ClassId → VType
vtype_of_class None = Null
vtype_of_class (Some c) = class_vtype c

abbrev pub text_type : Program → VType
text_type p = vtype_of_class (class_named p (codes "java/lang/String"))

abbrev pub object_type : Program → VType
object_type p = vtype_of_class (class_named p (codes "java/lang/Object"))

-- of what can be thrown; in a program without that class null alone
abbrev pub throwable_type : Program → VType
throwable_type p = vtype_of_class (class_named p (codes "java/lang/Throwable"))

-- ---- what an instruction takes

pub data Operand : Type 0 where
  -- what is assignable to a type
  Is : VType → Operand
  -- a reference, initialized or not
  AReference : Operand
  -- that, and initialized
  Initialized : Operand
  -- null, or an array of one of these primitive types
  ArrayOf : List Base → Operand
  -- null, or an array of references
  References : Operand
  -- null, or an array
  AnArray : Operand
  -- the object that a constructor of this class makes, or what is assignable to the class
  Own : ClassId → Operand

abbrev pub is_array_of : List Base → Ty → Bool
is_array_of bases ty = ty.dims == 1 && list_any (same_base ty.base) bases

abbrev pub is_array_of_references : Ty → Bool
is_array_of_references ty = nat_lt 1 ty.dims || (ty.dims == 1 && is_reference_base ty.base)

unfoldable pub meets : Program → Operand → VType → Bool
meets p (Is wanted) t = assignable p t wanted
meets p AReference Null = true
meets p AReference UninitThis = true
meets p AReference (Uninit at) = true
meets p AReference (Object ty) = true
meets p Initialized t = not (is_unset t)
meets p (ArrayOf bases) Null = true
meets p (ArrayOf bases) (Object ty) = is_array_of bases ty
meets p References Null = true
meets p References (Object ty) = is_array_of_references ty
meets p AnArray Null = true
meets p AnArray (Object ty) = nat_lt 0 ty.dims
meets p (Own c) UninitThis = true
meets p (Own c) t = assignable p t (class_vtype c)
meets p _ _ = false

-- the topmost types, by what is taken
abbrev pub all_meet : Program → List Operand → List VType → Bool
all_meet p [] s = true
all_meet p (o ∷ os) [] = false
all_meet p (o ∷ os) (t ∷ s) = meets p o t && all_meet p os s

-- ---- rules

abbrev pub rule : {A : Type 0} → ℕ → Bool → Result A ℕ → Result A ℕ
rule n true go = go
rule n false go = Err n

-- a further rule: it holds, and the topmost types are such
pub record Further : Type 0 where
  pub number : ℕ
  pub holds : Bool
  pub operands : List Operand

abbrev pub further : {A : Type 0} → Program → List Further → List VType → Result A ℕ → Result A ℕ
further p [] s go = go
further p (r ∷ rs) s go = rule r.number (r.holds && all_meet p r.operands s) (further p rs s go)

abbrev pub needs : ℕ → Bool → Further
needs n holds = record { number = n; holds = holds; operands = [] }

-- ---- rows

-- which words pop, dup and swap forms take, pass over and give
pub data Form : Type 0 where
  Drops : (count : ℕ) → Form
  Copies : (count passed : ℕ) → Form
  Swaps : Form

pub data Row : Type 0 where
  -- takes these from the stack, the top first, and gives these
  Takes : (takes : List Operand) (gives : List VType) (also : List Further) → Row
  -- takes an index and an array of references, and gives its element
  Element : Row
  Shuffles : Form → Row
  Loads : Operand → (slot : ℕ) → Row
  Stores : Operand → (slot : ℕ) → Row
  -- changes an int in a local
  Adds : (slot : ℕ) → Row
  -- `new`, and whether the class may be made
  Makes : (may : Bool) → Row
  -- a constructor's call: what it takes above the object, its class, and further rules
  Constructs : (takes : List Operand) (gives : List VType) (class : ClassId) (before after : List Further) → Row
  -- a return: what it takes, and whether the method has such a result
  Leaves : (takes : List Operand) (also : List Further) → Row

abbrev pub ints : List Operand
ints = Is Int ∷ Is Int ∷ []

abbrev pub longs : List Operand
longs = Is Long ∷ Is Long ∷ []

abbrev pub gives_int : List Operand → Row
gives_int takes = Takes takes (Int ∷ []) []

abbrev pub gives_long : List Operand → Row
gives_long takes = Takes takes (Long ∷ []) []

abbrev pub compares : Row
compares = Takes (AReference ∷ AReference ∷ []) [] (record { number = 10; holds = true; operands = Initialized ∷ Initialized ∷ [] } ∷ [])

abbrev pub tests_null : Row
tests_null = Takes (AReference ∷ []) [] (record { number = 10; holds = true; operands = Initialized ∷ [] } ∷ [])

-- the ldc forms: an int or a text; a long
abbrev pub constant_row : Program → Value → Row
constant_row p (IntValue n) = Takes [] (Int ∷ []) []
constant_row p (TextValue units) = Takes [] (text_type p ∷ []) []
constant_row p _ = Takes [] (Int ∷ []) (needs 9 false ∷ [])

abbrev pub long_constant_row : Value → Row
long_constant_row (LongValue n) = Takes [] (Long ∷ []) []
long_constant_row _ = Takes [] (Long ∷ []) (needs 9 false ∷ [])

-- a private member is of the own class
abbrev pub may_name : Method → Bool → ClassId → Bool
may_name m is_private owner = not is_private || owner.0 == m.owner.0

-- a field of the own class may be stored before the superclass's constructor is called
abbrev pub holder : Method → ClassId → Operand
holder m owner = if is_constructor m && owner.0 == m.owner.0 then Own owner else Is (class_vtype owner)

-- fails always
abbrev pub missing : Row
missing = Takes [] [] (needs 8 false ∷ [])

abbrev pub field_row : Instr → Method → Option Field → Row
field_row i m None = missing
field_row (Getstatic f) m (Some field) = Takes [] (vtype field.ty ∷ []) (needs 8 (field.is_static && may_name m field.is_private field.owner) ∷ [])
field_row (Getfield f) m (Some field) = Takes (Is (class_vtype field.owner) ∷ []) (vtype field.ty ∷ []) (needs 8 (not field.is_static && may_name m field.is_private field.owner) ∷ [])
field_row i m (Some field) = Takes (Is (vtype field.ty) ∷ holder m field.owner ∷ []) [] (needs 8 (not field.is_static && may_name m field.is_private field.owner) ∷ [])

-- the arguments, the last first
abbrev pub arguments : Method → List Operand
arguments callee = reverse (map (λ ty. Is (vtype ty)) callee.params)

abbrev pub superclass_at : Option Class → Option ClassId
superclass_at None = None
superclass_at (Some class) = class.superclass

-- ---- invokespecial

abbrev pub is_abstract_there : Option Method → Bool
is_abstract_there None = false
is_abstract_there (Some method) = method.is_abstract

-- what is called isn't abstract
abbrev pub selects : Program → Option MethodId → Bool
selects p None = true
selects p (Some id) = not (is_abstract_there (method_at p id))

-- a method of that superclass, or of one above it
abbrev pub is_above : Program → Option ClassId → Method → Bool
is_above p None callee = false
is_above p (Some up) callee = list_any (λ c. c.0 == callee.owner.0) (line_of p up) && selects p (selected p up callee)

abbrev pub is_superclass_method : Program → Option Class → Method → Bool
is_superclass_method p class callee = is_above p (superclass_at class) callee

-- invokespecial of no constructor calls an own private method or a method of a superclass that isn't abstract
unfoldable pub special_fits : Program → Method → MethodId → Method → Bool
special_fits p m id callee = if callee.owner.0 == m.owner.0 then callee.is_private else is_superclass_method p (class_at p m.owner) callee

abbrev pub static_rules : Method → Method → List Further
static_rules m callee = needs 8 (callee.is_static && may_name m callee.is_private callee.owner) ∷ needs 10 (not (is_constructor callee)) ∷ []

abbrev pub virtual_rules : Method → Method → List Further
virtual_rules m callee = needs 8 (not callee.is_static && may_name m callee.is_private callee.owner) ∷ needs 10 (not (is_constructor callee)) ∷ []

abbrev pub static_row : Method → Option Method → Row
static_row m None = missing
static_row m (Some callee) = Takes (arguments callee) (result_types callee.result) (static_rules m callee)

abbrev pub virtual_row : Method → Option Method → Row
virtual_row m None = missing
virtual_row m (Some callee) = Takes (arguments callee ++ (Is (class_vtype callee.owner) ∷ [])) (result_types callee.result) (virtual_rules m callee)

-- the receiver of invokespecial is of the own class too
abbrev pub also_own : Method → Method → Further
also_own m callee = record { number = 5; holds = true; operands = map (λ o. Is Top) (arguments callee) ++ (Is (class_vtype m.owner) ∷ []) }

abbrev pub special_rules : Program → Method → MethodId → Method → List Further
special_rules p m id callee = also_own m callee ∷ needs 8 (not callee.is_static && may_name m callee.is_private callee.owner) ∷ needs 14 (special_fits p m id callee) ∷ []

abbrev pub special_by : Bool → Program → Method → MethodId → Method → Row
special_by true p m id callee = Constructs (arguments callee) (result_types callee.result) callee.owner (needs 8 (not callee.is_static && may_name m callee.is_private callee.owner) ∷ []) (needs 14 (not callee.is_abstract) ∷ [])
special_by false p m id callee = Takes (arguments callee ++ (Is (class_vtype callee.owner) ∷ [])) (result_types callee.result) (special_rules p m id callee)

abbrev pub special_row : Program → Method → MethodId → Option Method → Row
special_row p m id None = missing
special_row p m id (Some callee) = special_by (is_constructor callee) p m id callee

-- `new` makes no abstract class and none of these
abbrev pub may_make : Program → ClassId → Option Class → Bool
may_make p c None = false
may_make p c (Some class) = not (class.is_abstract || (is_named p (codes "kilim/Message") c || (is_named p (codes "java/lang/String") c || (is_named p (codes "kilim/Sys") c || is_named p (codes "kilim/Fiber") c))))

abbrev pub array_ty : Ty → Ty
array_ty ty = record ty { dims = suc ty.dims }

-- the result fits: rule 11
abbrev pub has_int : Option Ty → Bool
has_int None = false
has_int (Some ty) = is_int (vtype ty)

abbrev pub has_long : Option Ty → Bool
has_long None = false
has_long (Some ty) = is_long (vtype ty)

abbrev pub has_object : Option Ty → Bool
has_object None = false
has_object (Some ty) = is_object (vtype ty)

abbrev pub returns_object : Method → List Further
returns_object m = record { number = 10; holds = true; operands = Initialized ∷ [] } ∷ record { number = 11; holds = has_object m.result; operands = map (λ t. Is t) (result_types m.result) } ∷ []

unfoldable pub row : Program → Method → Instr → Row
row p m Nop = Takes [] [] []
row p m AconstNull = Takes [] (Null ∷ []) []
row p m (Iconst n) = gives_int []
row p m (Lconst n) = gives_long []
row p m (Bipush n) = gives_int []
row p m (Sipush n) = gives_int []
row p m (Ldc value) = constant_row p value
row p m (LdcW value) = constant_row p value
row p m (Ldc2W value) = long_constant_row value
row p m (Iload n) = Loads (Is Int) n
row p m (Lload n) = Loads (Is Long) n
row p m (Aload n) = Loads AReference n
row p m Iaload = gives_int (Is Int ∷ ArrayOf (base.Int ∷ []) ∷ [])
row p m Laload = gives_long (Is Int ∷ ArrayOf (base.Long ∷ []) ∷ [])
row p m Aaload = Element
row p m Baload = gives_int (Is Int ∷ ArrayOf (base.Byte ∷ base.Bool ∷ []) ∷ [])
row p m Caload = gives_int (Is Int ∷ ArrayOf (base.Char ∷ []) ∷ [])
row p m Saload = gives_int (Is Int ∷ ArrayOf (base.Short ∷ []) ∷ [])
row p m (Istore n) = Stores (Is Int) n
row p m (Lstore n) = Stores (Is Long) n
row p m (Astore n) = Stores AReference n
row p m Iastore = Takes (Is Int ∷ Is Int ∷ ArrayOf (base.Int ∷ []) ∷ []) [] []
row p m Lastore = Takes (Is Long ∷ Is Int ∷ ArrayOf (base.Long ∷ []) ∷ []) [] []
row p m Aastore = Takes (Is (object_type p) ∷ Is Int ∷ References ∷ []) [] []
row p m Bastore = Takes (Is Int ∷ Is Int ∷ ArrayOf (base.Byte ∷ base.Bool ∷ []) ∷ []) [] []
row p m Castore = Takes (Is Int ∷ Is Int ∷ ArrayOf (base.Char ∷ []) ∷ []) [] []
row p m Sastore = Takes (Is Int ∷ Is Int ∷ ArrayOf (base.Short ∷ []) ∷ []) [] []
row p m Pop = Shuffles (Drops 1)
row p m Pop2 = Shuffles (Drops 2)
row p m Dup = Shuffles (Copies 1 0)
row p m DupX1 = Shuffles (Copies 1 1)
row p m DupX2 = Shuffles (Copies 1 2)
row p m Dup2 = Shuffles (Copies 2 0)
row p m Dup2X1 = Shuffles (Copies 2 1)
row p m Dup2X2 = Shuffles (Copies 2 2)
row p m Swap = Shuffles Swaps
row p m Iadd = gives_int ints
row p m Ladd = gives_long longs
row p m Isub = gives_int ints
row p m Lsub = gives_long longs
row p m Imul = gives_int ints
row p m Lmul = gives_long longs
row p m Idiv = gives_int ints
row p m Ldiv = gives_long longs
row p m Irem = gives_int ints
row p m Lrem = gives_long longs
row p m Ineg = gives_int (Is Int ∷ [])
row p m Lneg = gives_long (Is Long ∷ [])
row p m Ishl = gives_int ints
row p m Lshl = gives_long (Is Int ∷ Is Long ∷ [])
row p m Ishr = gives_int ints
row p m Lshr = gives_long (Is Int ∷ Is Long ∷ [])
row p m Iushr = gives_int ints
row p m Lushr = gives_long (Is Int ∷ Is Long ∷ [])
row p m Iand = gives_int ints
row p m Land = gives_long longs
row p m Ior = gives_int ints
row p m Lor = gives_long longs
row p m Ixor = gives_int ints
row p m Lxor = gives_long longs
row p m (Iinc n by) = Adds n
row p m I2l = gives_long (Is Int ∷ [])
row p m L2i = gives_int (Is Long ∷ [])
row p m I2b = gives_int (Is Int ∷ [])
row p m I2c = gives_int (Is Int ∷ [])
row p m I2s = gives_int (Is Int ∷ [])
row p m Lcmp = gives_int longs
row p m (Ifeq to) = Takes (Is Int ∷ []) [] []
row p m (Ifne to) = Takes (Is Int ∷ []) [] []
row p m (Iflt to) = Takes (Is Int ∷ []) [] []
row p m (Ifge to) = Takes (Is Int ∷ []) [] []
row p m (Ifgt to) = Takes (Is Int ∷ []) [] []
row p m (Ifle to) = Takes (Is Int ∷ []) [] []
row p m (IfIcmpeq to) = Takes ints [] []
row p m (IfIcmpne to) = Takes ints [] []
row p m (IfIcmplt to) = Takes ints [] []
row p m (IfIcmpge to) = Takes ints [] []
row p m (IfIcmpgt to) = Takes ints [] []
row p m (IfIcmple to) = Takes ints [] []
row p m (IfAcmpeq to) = compares
row p m (IfAcmpne to) = compares
row p m (Goto to) = Takes [] [] []
row p m (Tableswitch default low targets) = Takes (Is Int ∷ []) [] []
row p m (Lookupswitch default pairs) = Takes (Is Int ∷ []) [] []
row p m Ireturn = Leaves (Is Int ∷ []) (needs 11 (has_int m.result) ∷ [])
row p m Lreturn = Leaves (Is Long ∷ []) (needs 11 (has_long m.result) ∷ [])
row p m Areturn = Leaves (AReference ∷ []) (returns_object m)
row p m Return = Leaves [] (needs 11 (is_none m.result) ∷ [])
row p m (Getstatic f) = field_row (Getstatic f) m (field_of p f)
row p m (Getfield f) = field_row (Getfield f) m (field_of p f)
row p m (Putfield f) = field_row (Putfield f) m (field_of p f)
row p m (Invokevirtual id) = virtual_row m (method_at p id)
row p m (Invokespecial id) = special_row p m id (method_at p id)
row p m (Invokestatic id) = static_row m (method_at p id)
row p m (New c) = Makes (may_make p c (class_at p c))
row p m (Newarray element) = Takes (Is Int ∷ []) (Object (record { dims = 1; base = element }) ∷ []) []
row p m (Anewarray element) = Takes (Is Int ∷ []) (Object (array_ty element) ∷ []) (needs 13 (nat_lt element.dims 255) ∷ [])
row p m Arraylength = gives_int (AnArray ∷ [])
row p m (Checkcast ty) = Takes (Is (object_type p) ∷ []) (Object ty ∷ []) []
row p m (Instanceof ty) = Takes (Is (object_type p) ∷ []) (Int ∷ []) []
row p m (Ifnull to) = tests_null
row p m (Ifnonnull to) = tests_null
row p m (GotoW to) = Takes [] [] []
row p m Athrow = Takes (Is (throwable_type p) ∷ []) [] []

-- ---- the step

-- rule 4
abbrev pub has_room : Method → List VType → Bool
has_room m s = nat_le (words s) m.max_stack

-- it is asked of an instruction that pushes: what is given, above what is left
abbrev pub room_for : Method → List VType → List VType → Bool
room_for m [] below = true
room_for m (t ∷ ts) below = has_room m (t ∷ (ts ++ below))

abbrev pub has_operands : ℕ → List VType → Bool
has_operands n s = nat_le n (length s)

abbrev pub is_same : VType → VType → Bool
is_same UninitThis UninitThis = true
is_same (Uninit a) (Uninit b) = a == b
is_same _ _ = false

abbrev pub one_replaced : Bool → VType → VType → VType
one_replaced true t new = new
one_replaced false t new = t

-- an uninitialized type by another, wherever it stands
abbrev pub replaced : VType → VType → List VType → List VType
replaced old new [] = []
replaced old new (t ∷ ts) = one_replaced (is_same old t) t new ∷ replaced old new ts

-- so many words from the top, and the rest; rule 7 where a long would be split
abbrev pub above : VType → Result (List VType × List VType) ℕ → Result (List VType × List VType) ℕ
above t (Ok parts) = Ok (t ∷ parts.0, parts.1)
above t (Err n) = Err n

abbrev pub off : ℕ → List VType → Result (List VType × List VType) ℕ
off zero s = Ok ([], s)
off (suc n) [] = Err 3
off (suc zero) (Long ∷ s) = Err 7
off (suc (suc n)) (Long ∷ s) = above Long (off n s)
off (suc n) (t ∷ s) = above t (off n s)

abbrev pub then_off : {A : Type 0} → Result (List VType × List VType) ℕ → (List VType → List VType → Result A ℕ) → Result A ℕ
then_off (Ok parts) go = go parts.0 parts.1
then_off (Err n) go = Err n

abbrev pub form_words : Form → ℕ
form_words (Drops n) = n
form_words (Copies n passed) = n + passed
form_words Swaps = 2

abbrev pub shuffled : Form → List VType → Result (List VType) ℕ
shuffled (Drops n) s = then_off (off n s) (λ a rest. Ok rest)
shuffled (Copies n passed) s = then_off (off n s) (λ a below. then_off (off passed below) (λ b rest. Ok (a ++ (b ++ (a ++ rest)))))
shuffled Swaps s = then_off (off 1 s) (λ a below. then_off (off 1 below) (λ b rest. Ok (b ++ (a ++ rest))))

-- how many words a form adds
abbrev pub form_adds : Form → ℕ
form_adds (Drops n) = 0
form_adds (Copies n passed) = n
form_adds Swaps = 0

-- a form that drops pushes nothing
abbrev pub form_room : Method → Form → ℕ → Bool
form_room m (Drops n) height = true
form_room m (Copies n passed) height = nat_le (height + form_adds (Copies n passed)) m.max_stack
form_room m Swaps height = nat_le (height + form_adds Swaps) m.max_stack

abbrev pub with_stack : Types → Result (List VType) ℕ → Result Types ℕ
with_stack f (Err n) = Err n
with_stack f (Ok s) = Ok (record f { stack = s })

-- what a load pushes, whatever is in the local
abbrev pub pushed : Operand → VType
pushed (Is t) = t
pushed o = Null

abbrev pub loaded : Program → Method → Operand → ℕ → VType → Types → Result Types ℕ
loaded p m o slot t f = rule 4 (has_room m (pushed o ∷ f.stack)) (rule 6 (nat_lt slot m.max_locals && meets p o t) (Ok (record f { stack = t ∷ f.stack })))

abbrev pub store : Program → Method → Operand → ℕ → List VType → Types → Result Types ℕ
store p m o slot [] f = Err 3
store p m o slot (t ∷ s) f = rule 5 (meets p o t) (rule 6 (nat_le (slot + size t) m.max_locals) (Ok (record f { locals = stored f.locals slot t; stack = s })))

-- the element of an array
abbrev pub element : List VType → Result VType ℕ
element (i ∷ Null ∷ s) = Ok Null
element (i ∷ Object ty ∷ s) = Ok (vtype (record ty { dims = ty.dims - 1 }))
element s = Err 5

abbrev pub with_element : Types → Result VType ℕ → Result Types ℕ
with_element f (Ok t) = Ok (record f { stack = t ∷ drop 2 f.stack })
with_element f (Err n) = Err n

-- the class that the `new` at a place makes
abbrev pub made_by : Instr → Option ClassId
made_by (New c) = Some c
made_by _ = None

abbrev pub made_at : List (ℕ × Instr) → ℕ → Option ClassId
made_at [] at = None
made_at (e ∷ es) at = if e.0 == at then made_by e.1 else made_at es at

abbrev pub is_class : ClassId → Option ClassId → Bool
is_class c None = false
is_class c (Some d) = c.0 == d.0

-- a constructor of that class makes an initialized object of it
abbrev pub constructed : Program → Method → ClassId → List VType → List Further → List VType → Types → Result Types ℕ
constructed p m class gives after (UninitThis ∷ s) f =
    rule 10 (class.0 == m.owner.0 || is_class class (superclass_at (class_at p m.owner))) (further p after f.stack
    (Ok (record { locals = replaced UninitThis (class_vtype m.owner) f.locals; stack = gives ++ replaced UninitThis (class_vtype m.owner) s; unset = false })))
constructed p m class gives after (Uninit at ∷ s) f =
    rule 10 (is_class class (made_at m.code at)) (further p after f.stack
    (Ok (record f { locals = replaced (Uninit at) (class_vtype class) f.locals; stack = gives ++ replaced (Uninit at) (class_vtype class) s })))
constructed p m class gives after s f = Err 10

abbrev pub by_row : Program → Method → ℕ → Row → Types → Result Types ℕ
by_row p m at (Takes takes gives also) f =
    rule 3 (has_operands (length takes) f.stack) (rule 4 (room_for m gives (drop (length takes) f.stack)) (rule 5 (all_meet p takes f.stack)
    (further p also f.stack (Ok (record f { stack = gives ++ drop (length takes) f.stack })))))
by_row p m at Element f =
    rule 3 (has_operands 2 f.stack) (rule 4 (has_room m (Null ∷ drop 2 f.stack)) (rule 5 (all_meet p (Is Int ∷ References ∷ []) f.stack) (with_element f (element f.stack))))
by_row p m at (Shuffles form) f =
    rule 3 (nat_le (form_words form) (words f.stack)) (rule 4 (form_room m form (words f.stack)) (with_stack f (shuffled form f.stack)))
by_row p m at (Loads o slot) f = loaded p m o slot (peek f.locals slot) f
by_row p m at (Stores o slot) f = store p m o slot f.stack f
by_row p m at (Adds slot) f = rule 6 (nat_lt slot m.max_locals && meets p (Is Int) (peek f.locals slot)) (Ok f)
by_row p m at (Makes may) f =
    rule 4 (has_room m (Uninit at ∷ f.stack)) (rule 10 (not (list_any (is_same (Uninit at)) f.stack)) (rule 13 may
    (Ok (record f { locals = replaced (Uninit at) Top f.locals; stack = Uninit at ∷ f.stack }))))
by_row p m at (Constructs takes gives class before after) f =
    rule 3 (has_operands (suc (length takes)) f.stack) (rule 4 (room_for m gives (drop (suc (length takes)) f.stack)) (rule 5 (all_meet p takes f.stack)
    (further p before f.stack (constructed p m class gives after (drop (length takes) f.stack) f))))
by_row p m at (Leaves takes also) f =
    rule 3 (has_operands (length takes) f.stack) (rule 5 (all_meet p takes f.stack) (further p also f.stack
    (rule 11 (not (f.unset && is_constructor m)) (Ok (record f { stack = [] })))))

abbrev pub type_step : Program → Method → ℕ → Instr → Types → Result Types ℕ
type_step p m at i f = by_row p m at (row p m i) f
