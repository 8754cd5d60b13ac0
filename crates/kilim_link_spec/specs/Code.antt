-- Code in a program: bytes to instructions, and each index by what it names.
use Rattle.std.specs.Prelude.{ℕ, zero, suc, ◌+◌, ◌-◌, ◌==◌, ◌||◌, ℤ, pos, negsuc, if◌then◌else◌, List, [], ◌∷◌, length, Option, Some, None, option_map, option_and_then, Result, Ok, Err}
use Rattle.kilim_class_code.specs.opcodes.Numbers as opcode
use Rattle.kilim_class_grammar.specs.Reader.{◌>>=◌, with_fault}
use Rattle.kilim_class_code.specs.declared.opcodes.instr.RawInstr.{RawInstr}
use Rattle.kilim_class_code.specs.declared.opcodes.instr.RawInstr.TheVariants as raw
use Rattle.kilim_class_code.specs.opcodes.Reading.{instr_at}
use Rattle.kilim_class_code.specs.declared.fault.CodeFault.{CodeFault}
use Rattle.kilim_class_code.specs.Code.{Placed}
use Rattle.kilim_class_code.specs.Exact.{op_fault, body_fault}
use Rattle.kilim_class_pool.specs.declared.entry.Entry.{Entry}
use Rattle.kilim_class_pool.specs.declared.entry.Entry.TheVariants as entry
use Rattle.kilim_class_pool.specs.Entries.{entry_at}
use Rattle.kilim_class_file.specs.Parts.{text_of}
use Rattle.kilim_program.specs.declared.instr.Instr.{Instr}
use Rattle.kilim_program.specs.declared.instr.Instr.TheVariants.{Nop, AconstNull, Iconst, Lconst, Bipush, Sipush, Ldc, LdcW, Ldc2W, Iload, Lload, Aload, Iaload, Laload, Aaload, Baload, Caload, Saload, Istore, Lstore, Astore, Iastore, Lastore, Aastore, Bastore, Castore, Sastore, Pop, Pop2, Dup, DupX1, DupX2, Dup2, Dup2X1, Dup2X2, Swap, Iadd, Ladd, Isub, Lsub, Imul, Lmul, Idiv, Ldiv, Irem, Lrem, Ineg, Lneg, Ishl, Lshl, Ishr, Lshr, Iushr, Lushr, Iand, Land, Ior, Lor, Ixor, Lxor, Iinc, I2l, L2i, I2b, I2c, I2s, Lcmp, Ifeq, Ifne, Iflt, Ifge, Ifgt, Ifle, IfIcmpeq, IfIcmpne, IfIcmplt, IfIcmpge, IfIcmpgt, IfIcmple, IfAcmpeq, IfAcmpne, Goto, Tableswitch, Lookupswitch, Ireturn, Lreturn, Areturn, Return, Getstatic, Getfield, Putfield, Invokevirtual, Invokespecial, Invokestatic, New, Newarray, Anewarray, Arraylength, Athrow, Checkcast, Instanceof, Ifnull, Ifnonnull, GotoW}
use Rattle.kilim_program.specs.declared.names.FieldId.{FieldId}
use Rattle.kilim_program.specs.declared.names.MethodId.{MethodId}
use Rattle.kilim_program.specs.declared.ty.Base.{Base}
use Rattle.kilim_program.specs.declared.ty.Base.TheVariants as base
use Rattle.kilim_program.specs.declared.ty.Ty.{Ty}
use Rattle.kilim_program.specs.declared.value.Value.{Value}
use Rattle.kilim_program.specs.declared.value.Value.TheVariants.{Int, Long, Text}
use Rattle.kilim_link_spec.specs.World.{World, class_text, find_field, find_method}
use Rattle.kilim_link_spec.specs.Types.{Named, AClass, named_by, type_named, class_named_by, each_of}
pub use Rattle.kilim_link_spec.specs.declared.fault.MemberOf.{MemberOf as MemberRef}
pub use Rattle.kilim_link_spec.specs.declared.named.Operand.{Operand}
pub use Rattle.kilim_link_spec.specs.declared.named.Operand.TheVariants.{AConstant, AField, AMethod, AType}

-- ---- the instructions of a code array (JVMS 4.7.3, 4.9), or its first fault

-- each instruction takes a byte at least, so as many turns as there are bytes are enough
unfoldable pub instrs_from : ℕ → ℕ → List ℕ → Result (List Placed) CodeFault
instrs_from turns at [] = Ok []
instrs_from zero at (b ∷ bytes) = Ok []
instrs_from (suc turns) at (b ∷ bytes) = do
  first ← with_fault (op_fault at) (instr_at at (b ∷ bytes))
  others ← instrs_from turns (at + (length (b ∷ bytes) - length first.1)) first.1
  Ok ((at, first.0) ∷ others)

-- the instructions, or a fault of them
abbrev pub unless_fault : List Placed → Option CodeFault → Result (List Placed) CodeFault
unless_fault code None = Ok code
unless_fault code (Some fault) = Err fault

-- the instructions where all targets and the end are right (JVMS 4.9.1)
abbrev pub checked_body : Result (List Placed) CodeFault → Result (List Placed) CodeFault
checked_body (Ok code) = unless_fault code (body_fault code)
checked_body (Err fault) = Err fault

-- the instructions of a code array with their places, or its first fault
unfoldable pub decoded : List ℕ → Result (List Placed) CodeFault
decoded bytes = checked_body (instrs_from (length bytes) 0 bytes)

-- ---- what an index names

-- a member by its class and its entry of name and descriptor (JVMS 4.4.6)
abbrev pub ref_with : List Entry → ℕ → Option Entry → Option MemberRef
ref_with pool class (Some (entry.NameAndType name descriptor)) = Some (record { owner = class_text pool class; name = text_of pool name; descriptor = text_of pool descriptor })
ref_with pool class _ = None

-- what a Fieldref names (JVMS 4.4.2)
abbrev pub field_ref : List Entry → Option Entry → Option MemberRef
field_ref pool (Some (entry.Fieldref class member)) = ref_with pool class (entry_at pool member)
field_ref pool _ = None

-- what a Methodref names
abbrev pub method_ref : List Entry → Option Entry → Option MemberRef
method_ref pool (Some (entry.Methodref class member)) = ref_with pool class (entry_at pool member)
method_ref pool _ = None

-- `invokespecial` and `invokestatic` also take a method of an interface (JVMS 6.5)
abbrev pub any_method_ref : List Entry → Option Entry → Option MemberRef
any_method_ref pool (Some (entry.InterfaceMethodref class member)) = ref_with pool class (entry_at pool member)
any_method_ref pool e = method_ref pool e

-- what a Class entry names (JVMS 4.4.1)
abbrev pub class_ref : List Entry → Option Entry → Option Named
class_ref pool (Some (entry.Class name)) = Some (named_by (text_of pool name))
class_ref pool _ = None

-- a class that is no array
abbrev pub unless_array : Option Named → Option Named
unless_array (Some (AClass name)) = Some (AClass name)
unless_array _ = None

-- the ldc forms load an int, a long or a string
abbrev pub constant_ref : List Entry → Option Entry → Option Value
constant_ref pool (Some (entry.Integer n)) = Some (Int n)
constant_ref pool (Some (entry.Long n)) = Some (Long n)
constant_ref pool (Some (entry.String text)) = Some (Text (text_of pool text))
constant_ref pool _ = None

-- What the index of an instruction names: a constant, a field, a method or a class; none where it names no entry of a
-- kind that the instruction takes. The numbers are those of the ldc forms; `getstatic`, `getfield`, `putfield`;
-- `invokevirtual`; `invokespecial`, `invokestatic`; `new`; `anewarray`, `checkcast`, `instanceof`.
abbrev pub index_operand : List Entry → ℕ → Option Entry → Option Operand
index_operand pool number e =
    if number == opcode.ldc || number == opcode.ldc_w || number == opcode.ldc2_w then option_map AConstant (constant_ref pool e)
    else (if number == opcode.getstatic || number == opcode.getfield || number == opcode.putfield then option_map AField (field_ref pool e)
    else (if number == opcode.invokevirtual then option_map AMethod (method_ref pool e)
    else (if number == opcode.invokespecial || number == opcode.invokestatic then option_map AMethod (any_method_ref pool e)
    else (if number == opcode.new then option_map AType (unless_array (class_ref pool e))
    else (if number == opcode.anewarray || number == opcode.checkcast || number == opcode.instanceof then option_map AType (class_ref pool e)
    else None)))))

-- the number and the index of an instruction that has one
abbrev pub index_in : RawInstr → Option (ℕ × ℕ)
index_in (raw.Constant number index) = Some (number, index)
index_in (raw.Index number index) = Some (number, index)
index_in _ = None

-- what an index names for the instruction of this number
abbrev pub operand_at : List Entry → ℕ × ℕ → Option Operand
operand_at pool x = index_operand pool x.0 (entry_at pool x.1)

-- ---- the instruction

-- those without operands, and the short forms
abbrev pub plain_instrs : List (ℕ × Instr)
plain_instrs =
    (0, Nop) ∷ (1, AconstNull)
    ∷ (2, Iconst (negsuc 0)) ∷ (3, Iconst (pos 0)) ∷ (4, Iconst (pos 1)) ∷ (5, Iconst (pos 2)) ∷ (6, Iconst (pos 3)) ∷ (7, Iconst (pos 4)) ∷ (8, Iconst (pos 5))
    ∷ (9, Lconst (pos 0)) ∷ (10, Lconst (pos 1))
    ∷ (26, Iload 0) ∷ (27, Iload 1) ∷ (28, Iload 2) ∷ (29, Iload 3)
    ∷ (30, Lload 0) ∷ (31, Lload 1) ∷ (32, Lload 2) ∷ (33, Lload 3)
    ∷ (42, Aload 0) ∷ (43, Aload 1) ∷ (44, Aload 2) ∷ (45, Aload 3)
    ∷ (46, Iaload) ∷ (47, Laload) ∷ (50, Aaload) ∷ (51, Baload) ∷ (52, Caload) ∷ (53, Saload)
    ∷ (59, Istore 0) ∷ (60, Istore 1) ∷ (61, Istore 2) ∷ (62, Istore 3)
    ∷ (63, Lstore 0) ∷ (64, Lstore 1) ∷ (65, Lstore 2) ∷ (66, Lstore 3)
    ∷ (75, Astore 0) ∷ (76, Astore 1) ∷ (77, Astore 2) ∷ (78, Astore 3)
    ∷ (79, Iastore) ∷ (80, Lastore) ∷ (83, Aastore) ∷ (84, Bastore) ∷ (85, Castore) ∷ (86, Sastore)
    ∷ (87, Pop) ∷ (88, Pop2) ∷ (89, Dup) ∷ (90, DupX1) ∷ (91, DupX2) ∷ (92, Dup2) ∷ (93, Dup2X1) ∷ (94, Dup2X2) ∷ (95, Swap)
    ∷ (96, Iadd) ∷ (97, Ladd) ∷ (100, Isub) ∷ (101, Lsub) ∷ (104, Imul) ∷ (105, Lmul) ∷ (108, Idiv) ∷ (109, Ldiv)
    ∷ (112, Irem) ∷ (113, Lrem) ∷ (116, Ineg) ∷ (117, Lneg)
    ∷ (120, Ishl) ∷ (121, Lshl) ∷ (122, Ishr) ∷ (123, Lshr) ∷ (124, Iushr) ∷ (125, Lushr)
    ∷ (126, Iand) ∷ (127, Land) ∷ (128, Ior) ∷ (129, Lor) ∷ (130, Ixor) ∷ (131, Lxor)
    ∷ (133, I2l) ∷ (136, L2i) ∷ (145, I2b) ∷ (146, I2c) ∷ (147, I2s) ∷ (148, Lcmp)
    ∷ (172, Ireturn) ∷ (173, Lreturn) ∷ (176, Areturn) ∷ (177, Return) ∷ (190, Arraylength) ∷ (191, Athrow)
    ∷ []

-- those with a slot
abbrev pub local_instrs : List (ℕ × (ℕ → Instr))
local_instrs = (21, Iload) ∷ (22, Lload) ∷ (25, Aload) ∷ (54, Istore) ∷ (55, Lstore) ∷ (58, Astore) ∷ []

-- those with a target
abbrev pub jump_instrs : List (ℕ × (ℕ → Instr))
jump_instrs =
    (153, Ifeq) ∷ (154, Ifne) ∷ (155, Iflt) ∷ (156, Ifge) ∷ (157, Ifgt) ∷ (158, Ifle)
    ∷ (159, IfIcmpeq) ∷ (160, IfIcmpne) ∷ (161, IfIcmplt) ∷ (162, IfIcmpge) ∷ (163, IfIcmpgt) ∷ (164, IfIcmple)
    ∷ (165, IfAcmpeq) ∷ (166, IfAcmpne) ∷ (167, Goto) ∷ (198, Ifnull) ∷ (199, Ifnonnull) ∷ (200, GotoW)
    ∷ []

-- those with a field, by what it is in the program
abbrev pub field_instrs : List (ℕ × (FieldId → Instr))
field_instrs = (178, Getstatic) ∷ (180, Getfield) ∷ (181, Putfield) ∷ []

-- those with a method
abbrev pub method_instrs : List (ℕ × (MethodId → Instr))
method_instrs = (182, Invokevirtual) ∷ (183, Invokespecial) ∷ (184, Invokestatic) ∷ []

-- those with a type
abbrev pub type_instrs : List (ℕ × (Ty → Instr))
type_instrs = (189, Anewarray) ∷ (192, Checkcast) ∷ (193, Instanceof) ∷ []

-- those with a constant
abbrev pub constant_instrs : List (ℕ × (Value → Instr))
constant_instrs = (18, Ldc) ∷ (19, LdcW) ∷ (20, Ldc2W) ∷ []

-- the codes of `newarray` (JVMS table 6.5.newarray-A)
abbrev pub array_codes : List (ℕ × Base)
array_codes = (4, base.Bool) ∷ (5, base.Char) ∷ (8, base.Byte) ∷ (9, base.Short) ∷ (10, base.Int) ∷ (11, base.Long) ∷ []

-- what a table has for a number
abbrev pub row : {A : Type 0} → List (ℕ × A) → ℕ → Option A
row [] number = None
row (r ∷ rows) number = if r.0 == number then Some r.1 else row rows number

-- a target that is a place; each one is where the code has no fault
abbrev pub place_of : ℤ → Option ℕ
place_of (pos n) = Some n
place_of (negsuc n) = None

-- a function at a value, where both are there
abbrev pub applied : {A B : Type 0} → Option (A → B) → Option A → Option B
applied (Some f) (Some x) = Some (f x)
applied _ _ = None

-- a match of a `lookupswitch` with its target
abbrev pub pair_in : ℤ × ℤ → Option (ℤ × ℕ)
pair_in pair = option_map (λ to. (pair.0, to)) (place_of pair.1)

-- a member of a class that is no array
abbrev pub field_found : World → MemberRef → Option FieldId
field_found w ref = option_and_then (λ c. find_field w c ref.name ref.descriptor) (class_named_by w (named_by ref.owner))

-- the same of a method
abbrev pub method_found : World → MemberRef → Option MethodId
method_found w ref = option_and_then (λ c. find_method w c ref.name ref.descriptor) (class_named_by w (named_by ref.owner))

-- an instruction with a class or a type: `new` takes a class alone
abbrev pub typed_instr : World → ℕ → Named → Option Instr
typed_instr w number class = if number == opcode.new then option_map New (class_named_by w class) else applied (row type_instrs number) (type_named w class)

-- an instruction with what its index names
abbrev pub instr_with : World → ℕ → Option Operand → Option Instr
instr_with w number None = None
instr_with w number (Some (AConstant value)) = applied (row constant_instrs number) (Some value)
instr_with w number (Some (AField member)) = applied (row field_instrs number) (field_found w member)
instr_with w number (Some (AMethod member)) = applied (row method_instrs number) (method_found w member)
instr_with w number (Some (AType class)) = typed_instr w number class

-- An instruction in a program: a short form is the instruction of its long form, and an index is replaced by what it
-- names.
unfoldable pub instr_in : World → List Entry → RawInstr → Option Instr
instr_in w pool (raw.Plain number) = row plain_instrs number
instr_in w pool (raw.Byte number n) = Some (Bipush n)
instr_in w pool (raw.Short number n) = Some (Sipush n)
instr_in w pool (raw.Local number slot) = applied (row local_instrs number) (Some slot)
instr_in w pool (raw.WideLocal number slot) = applied (row local_instrs number) (Some slot)
instr_in w pool (raw.Iinc number slot n) = Some (Iinc slot n)
instr_in w pool (raw.WideIinc number slot n) = Some (Iinc slot n)
instr_in w pool (raw.Jump number to) = applied (row jump_instrs number) (place_of to)
instr_in w pool (raw.WideJump number to) = applied (row jump_instrs number) (place_of to)
instr_in w pool (raw.NewArray number code) = option_map Newarray (row array_codes code)
instr_in w pool (raw.TableSwitch number default low targets) = applied (option_map (λ to. Tableswitch to low) (place_of default)) (each_of place_of targets)
instr_in w pool (raw.LookupSwitch number default pairs) = applied (option_map (λ to. λ each. Lookupswitch to each) (place_of default)) (each_of pair_in pairs)
instr_in w pool (raw.Constant number index) = instr_with w number (operand_at pool (number, index))
instr_in w pool (raw.Index number index) = instr_with w number (operand_at pool (number, index))

-- an instruction in a program, with its place
abbrev pub placed_in : World → List Entry → Placed → Option (ℕ × Instr)
placed_in w pool p = option_map (λ instr. (p.0, instr)) (instr_in w pool p.1)

-- the code in a program, where it has no fault and all that it names is there
abbrev pub code_of : World → List Entry → Result (List Placed) CodeFault → Option (List (ℕ × Instr))
code_of w pool (Ok code) = each_of (placed_in w pool) code
code_of w pool (Err fault) = None
