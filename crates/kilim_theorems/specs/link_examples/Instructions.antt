-- The instructions of programs by all 256 numbers (JVMS 6.5): which numbers the tables have, by the layouts of
-- `kilim_class_code::opcodes`; which instruction each one is, by the order in which the standard lists them; and which entries of the
-- pool each one takes.
use Rattle.std.specs.Prelude.{◌≡◌, ℕ, ◌+◌, ◌-◌, ◌==◌, pos, negsuc, Bool, true, false, if◌then◌else◌, List, [], ◌∷◌, ◌++◌, map, filter, length, Option, Some, None, is_some, option_map, codes}
use Rattle.std.specs.List.{list_all, range_with_len}
use Rattle.kilim_class_pool.specs.declared.entry.Entry.{Entry}
use Rattle.kilim_class_pool.specs.declared.entry.Entry.TheVariants as entry
use Rattle.kilim_class_code.specs.declared.opcodes.forms.OpForm.{OpForm}
use Rattle.kilim_class_code.specs.declared.opcodes.forms.OpForm.TheVariants as form
use Rattle.kilim_class_code.specs.opcodes.Instr.{is_array_code}
use Rattle.kilim_class_code.specs.opcodes.Table.{form_of}
use Rattle.kilim_program.specs.declared.instr.Instr.{Instr}
use Rattle.kilim_program.specs.declared.instr.Instr.TheVariants.{Nop, AconstNull, Iconst, Lconst, Ldc, LdcW, Ldc2W, Iload, Lload, Aload, Iaload, Laload, Aaload, Baload, Caload, Saload, Istore, Lstore, Astore, Iastore, Lastore, Aastore, Bastore, Castore, Sastore, Pop, Pop2, Dup, DupX1, DupX2, Dup2, Dup2X1, Dup2X2, Swap, Iadd, Ladd, Isub, Lsub, Imul, Lmul, Idiv, Ldiv, Irem, Lrem, Ineg, Lneg, Ishl, Lshl, Ishr, Lshr, Iushr, Lushr, Iand, Land, Ior, Lor, Ixor, Lxor, I2l, L2i, I2b, I2c, I2s, Lcmp, Ifeq, Ifne, Iflt, Ifge, Ifgt, Ifle, IfIcmpeq, IfIcmpne, IfIcmplt, IfIcmpge, IfIcmpgt, IfIcmple, IfAcmpeq, IfAcmpne, Goto, Ireturn, Lreturn, Areturn, Return, Getstatic, Getfield, Putfield, Invokevirtual, Invokespecial, Invokestatic, Anewarray, Arraylength, Athrow, Checkcast, Instanceof, Ifnull, Ifnonnull, GotoW}
use Rattle.kilim_program.specs.declared.ty.Base.{Base}
use Rattle.kilim_program.specs.declared.ty.Base.TheVariants as base
use Rattle.kilim_program.specs.declared.value.Value.TheVariants.{Int}
use Rattle.kilim_program.specs.BuiltIn.{int_type, method_id}
use Rattle.kilim_program.specs.Same.{same_flag}
use Rattle.kilim_link_spec.specs.World.{field_id}
use Rattle.kilim_link_spec.specs.Code.{plain_instrs, local_instrs, jump_instrs, field_instrs, method_instrs, type_instrs, constant_instrs, array_codes, row, index_operand}

abbrev pub numbers : List ℕ
numbers = range_with_len 0 256

-- ---- which numbers stand in which table

abbrev pub is_plain : Option OpForm → Bool
is_plain (Some form.Plain) = true
is_plain _ = false

abbrev pub is_local : Option OpForm → Bool
is_local (Some form.Local) = true
is_local _ = false

abbrev pub is_jump : Option OpForm → Bool
is_jump (Some form.Jump) = true
is_jump (Some form.WideJump) = true
is_jump _ = false

-- of the pool
abbrev pub is_indexed : Option OpForm → Bool
is_indexed (Some form.Constant) = true
is_indexed (Some form.Index) = true
is_indexed _ = false

-- the table has just the numbers of these layouts
abbrev pub has_just : {A : Type 0} → List (ℕ × A) → (Option OpForm → Bool) → Bool
has_just table is_of = list_all (λ n. same_flag (is_some (row table n)) (is_of (form_of n))) numbers

abbrev pub count_of : {A : Type 0} → List (ℕ × A) → ℕ → ℕ
count_of table number = length (filter (λ r. r.0 == number) table)

-- An index names a constant, a field, a method or a type, or the class of `new`: of these tables just one has it.
abbrev pub index_rows : ℕ → ℕ
index_rows n = count_of constant_instrs n + (count_of field_instrs n + (count_of method_instrs n + (count_of type_instrs n + (if n == 187 then 1 else 0))))

abbrev pub expected_rows : Bool → ℕ
expected_rows true = 1
expected_rows false = 0

-- ---- which instruction each number is

-- instructions whose numbers begin here and go on in such steps
abbrev pub numbered_from : {A : Type 0} → ℕ → ℕ → List A → List (ℕ × A)
numbered_from first step [] = []
numbered_from first step (x ∷ xs) = (first, x) ∷ numbered_from (first + step) step xs

-- the short forms: the slot is the distance from the first one's number
abbrev pub short_forms : ℕ → (ℕ → Instr) → List (ℕ × Instr)
short_forms first make = map (λ n. (n, make (n - first))) (range_with_len first 4)

-- without operands, in the standard's order; int and long arithmetic with two numbers left out behind each pair
abbrev pub plain_ones : List (ℕ × Instr)
plain_ones =
    numbered_from 0 1 (Nop ∷ AconstNull ∷ Iconst (negsuc 0) ∷ Iconst (pos 0) ∷ Iconst (pos 1) ∷ Iconst (pos 2) ∷ Iconst (pos 3) ∷ Iconst (pos 4) ∷ Iconst (pos 5) ∷ Lconst (pos 0) ∷ Lconst (pos 1) ∷ [])
    ++ (short_forms 26 Iload ++ (short_forms 30 Lload ++ (short_forms 42 Aload ++ (short_forms 59 Istore ++ (short_forms 63 Lstore ++ (short_forms 75 Astore
    ++ (numbered_from 46 1 (Iaload ∷ Laload ∷ [])
    ++ (numbered_from 50 1 (Aaload ∷ Baload ∷ Caload ∷ Saload ∷ [])
    ++ (numbered_from 79 1 (Iastore ∷ Lastore ∷ [])
    ++ (numbered_from 83 1 (Aastore ∷ Bastore ∷ Castore ∷ Sastore ∷ Pop ∷ Pop2 ∷ Dup ∷ DupX1 ∷ DupX2 ∷ Dup2 ∷ Dup2X1 ∷ Dup2X2 ∷ Swap ∷ [])
    ++ (numbered_from 96 4 (Iadd ∷ Isub ∷ Imul ∷ Idiv ∷ Irem ∷ Ineg ∷ [])
    ++ (numbered_from 97 4 (Ladd ∷ Lsub ∷ Lmul ∷ Ldiv ∷ Lrem ∷ Lneg ∷ [])
    ++ (numbered_from 120 1 (Ishl ∷ Lshl ∷ Ishr ∷ Lshr ∷ Iushr ∷ Lushr ∷ Iand ∷ Land ∷ Ior ∷ Lor ∷ Ixor ∷ Lxor ∷ [])
    ++ (numbered_from 133 3 (I2l ∷ L2i ∷ [])
    ++ (numbered_from 145 1 (I2b ∷ I2c ∷ I2s ∷ Lcmp ∷ [])
    ++ (numbered_from 172 1 (Ireturn ∷ Lreturn ∷ [])
    ++ (numbered_from 176 1 (Areturn ∷ Return ∷ [])
    ++ numbered_from 190 1 (Arraylength ∷ Athrow ∷ []))))))))))))))))))

abbrev pub local_ones : List (ℕ × Instr)
local_ones = numbered_from 21 1 (Iload 9 ∷ Lload 9 ∷ []) ++ (numbered_from 25 1 (Aload 9 ∷ []) ++ (numbered_from 54 1 (Istore 9 ∷ Lstore 9 ∷ []) ++ numbered_from 58 1 (Astore 9 ∷ [])))

abbrev pub jump_ones : List (ℕ × Instr)
jump_ones =
    numbered_from 153 1 (Ifeq 9 ∷ Ifne 9 ∷ Iflt 9 ∷ Ifge 9 ∷ Ifgt 9 ∷ Ifle 9 ∷ IfIcmpeq 9 ∷ IfIcmpne 9 ∷ IfIcmplt 9 ∷ IfIcmpge 9 ∷ IfIcmpgt 9 ∷ IfIcmple 9 ∷ IfAcmpeq 9 ∷ IfAcmpne 9 ∷ Goto 9 ∷ [])
    ++ numbered_from 198 1 (Ifnull 9 ∷ Ifnonnull 9 ∷ GotoW 9 ∷ [])

abbrev pub field_ones : List (ℕ × Instr)
field_ones = numbered_from 178 2 (Getstatic (field_id 9) ∷ Getfield (field_id 9) ∷ []) ++ numbered_from 181 1 (Putfield (field_id 9) ∷ [])

abbrev pub method_ones : List (ℕ × Instr)
method_ones = numbered_from 182 1 (Invokevirtual (method_id 9) ∷ Invokespecial (method_id 9) ∷ Invokestatic (method_id 9) ∷ [])

abbrev pub type_ones : List (ℕ × Instr)
type_ones = numbered_from 189 3 (Anewarray int_type ∷ Checkcast int_type ∷ []) ++ numbered_from 193 1 (Instanceof int_type ∷ [])

abbrev pub constant_ones : List (ℕ × Instr)
constant_ones = numbered_from 18 1 (Ldc (Int (pos 9)) ∷ LdcW (Int (pos 9)) ∷ Ldc2W (Int (pos 9)) ∷ [])

-- the codes of `newarray` (JVMS table 6.5.newarray-A), where 6 and 7 are float and double
abbrev pub element_types : List (ℕ × Base)
element_types = numbered_from 4 1 (base.Bool ∷ base.Char ∷ []) ++ numbered_from 8 1 (base.Byte ∷ base.Short ∷ base.Int ∷ base.Long ∷ [])

-- the table gives, for each number, what is expected of it
abbrev pub Gives : {A B : Type 0} → List (ℕ × A) → (A → B) → List (ℕ × B) → Type 0
Gives table made expected = map (λ r. option_map made (row table r.0)) expected ≡ map (λ r. Some r.1) expected

-- ---- which entries each number takes

-- the names of a class, of an array, and what begins as an array's and is none
abbrev pub pool : List Entry
pool = entry.Utf8 (codes "P") ∷ entry.Utf8 (codes "[I") ∷ entry.Utf8 (codes "[V") ∷ entry.Class 1 ∷ entry.Utf8 (codes "m") ∷ entry.NameAndType 5 1 ∷ []

abbrev pub takers : Option Entry → List ℕ
takers e = filter (λ n. is_some (index_operand pool n e)) numbers

pub record InstructionsAgree : Type 0 where
  pub plain : has_just plain_instrs is_plain ≡ true
  pub locals : has_just local_instrs is_local ≡ true
  pub jumps : has_just jump_instrs is_jump ≡ true
  pub indexed : list_all (λ n. index_rows n == expected_rows (is_indexed (form_of n))) numbers ≡ true
  pub codes_of_arrays : list_all (λ n. same_flag (is_some (row array_codes n)) (is_array_code n)) numbers ≡ true
  -- as many as there are, so that the lists below leave none out
  pub all_plain : length plain_ones ≡ length plain_instrs
  pub each_plain : Gives plain_instrs (λ instr. instr) plain_ones
  pub all_locals : length local_ones ≡ length local_instrs
  pub each_local : Gives local_instrs (λ make. make 9) local_ones
  pub all_jumps : length jump_ones ≡ length jump_instrs
  pub each_jump : Gives jump_instrs (λ make. make 9) jump_ones
  pub all_fields : length field_ones ≡ length field_instrs
  pub each_field : Gives field_instrs (λ make. make (field_id 9)) field_ones
  pub all_methods : length method_ones ≡ length method_instrs
  pub each_method : Gives method_instrs (λ make. make (method_id 9)) method_ones
  pub all_types : length type_ones ≡ length type_instrs
  pub each_type : Gives type_instrs (λ make. make int_type) type_ones
  pub all_constants : length constant_ones ≡ length constant_instrs
  pub each_constant : Gives constant_instrs (λ make. make (Int (pos 9))) constant_ones
  pub all_elements : length element_types ≡ length array_codes
  pub each_element : Gives array_codes (λ element. element) element_types
  -- the ldc forms; `new` and those with a type, of which `new` takes no array; fields; methods
  pub take_integer : takers (Some (entry.Integer (pos 7))) ≡ 18 ∷ 19 ∷ 20 ∷ []
  pub take_long : takers (Some (entry.Long (pos 7))) ≡ 18 ∷ 19 ∷ 20 ∷ []
  pub take_string : takers (Some (entry.String 1)) ≡ 18 ∷ 19 ∷ 20 ∷ []
  pub take_class : takers (Some (entry.Class 1)) ≡ 187 ∷ 189 ∷ 192 ∷ 193 ∷ []
  pub take_array : takers (Some (entry.Class 2)) ≡ 189 ∷ 192 ∷ 193 ∷ []
  pub take_malformed : takers (Some (entry.Class 3)) ≡ 189 ∷ 192 ∷ 193 ∷ []
  pub take_field : takers (Some (entry.Fieldref 4 6)) ≡ 178 ∷ 180 ∷ 181 ∷ []
  pub take_method : takers (Some (entry.Methodref 4 6)) ≡ 182 ∷ 183 ∷ 184 ∷ []
  pub take_interface_method : takers (Some (entry.InterfaceMethodref 4 6)) ≡ 183 ∷ 184 ∷ []
  pub take_float : takers (Some (entry.Float 0)) ≡ []
  pub take_double : takers (Some (entry.Double 0)) ≡ []
  pub take_text : takers (Some (entry.Utf8 (codes "P"))) ≡ []
  pub take_name_and_type : takers (Some (entry.NameAndType 5 1)) ≡ []
  pub take_method_type : takers (Some (entry.MethodType 1)) ≡ []
  pub take_method_handle : takers (Some (entry.MethodHandle 5 7)) ≡ []
  pub take_dynamic : takers (Some (entry.InvokeDynamic 0 6)) ≡ []
  pub take_nothing : takers None ≡ []
