-- The woven code as bytes: each instruction in its form, with the pool's indices filled in.
use Rattle.std.specs.Prelude.{ℕ, ◌+◌, Bool, true, false, nat_lt, if◌then◌else◌, ℤ, pos, negsuc, List, [], ◌∷◌, ◌++◌, map, Option, Some, None}
use Rattle.kilim_class_code.specs.opcodes.Numbers as opcode
use Rattle.kilim_class_code.specs.Code.{Placed}
use Rattle.kilim_class_pool.specs.declared.entry.Entry.{Entry}
use Rattle.kilim_class_pool.specs.declared.entry.Entry.TheVariants as entry
use Rattle.kilim_class_pool.specs.Entries.{entry_at}
use Rattle.kilim_class_file.specs.Parts.{text_of}
use Rattle.kilim_class_code.specs.declared.opcodes.instr.RawInstr.{RawInstr}
use Rattle.kilim_class_code.specs.declared.opcodes.instr.RawInstr.TheVariants as raw
use Rattle.kilim_program.specs.declared.class.Method.{Method}
use Rattle.kilim_program.specs.declared.instr.Instr.{Instr}
use Rattle.kilim_program.specs.declared.instr.Instr.TheVariants.{AconstNull, Iconst, Lconst, Bipush, Sipush, Iload, Lload, Aload, Istore, Lstore, Astore, Pop, Pop2, Ifeq, Ifne, Iflt, Ifge, Ifgt, Ifle, IfIcmpeq, IfIcmpne, IfIcmplt, IfIcmpge, IfIcmpgt, IfIcmple, IfAcmpeq, IfAcmpne, Goto, Tableswitch, Lookupswitch, Ireturn, Lreturn, Areturn, Return, Invokevirtual, Invokespecial, Invokestatic, Checkcast, Ifnull, Ifnonnull, GotoW}
use Rattle.kilim_program.specs.Program.{Program}
use Rattle.kilim_program.specs.Names.{method_at}
use Rattle.kilim_class_making.specs.declared.pool_needs.need.Need.{Need}
use Rattle.kilim_class_making.specs.declared.pool_needs.need.Need.TheVariants.{AClass, ACall}
use Rattle.kilim_class_making.specs.pool_needs.Adding.{index_of}
use Rattle.kilim_weave_file_spec.specs.Texts.{woven_descriptor, type_name, needed_method}

-- ---- forms

-- a load or a store of a local in its shortest form: the number of its form with slot 0, and of that with a slot
abbrev pub local_form : ℕ → ℕ → ℕ → RawInstr
local_form short long slot = if nat_lt slot 4 then raw.Plain (short + slot) else (if nat_lt slot 256 then raw.Local long slot else raw.WideLocal long slot)

abbrev pub int_form : ℤ → RawInstr
int_form (pos n) = raw.Plain (3 + n)
int_form (negsuc n) = raw.Plain 2

abbrev pub long_form : ℤ → RawInstr
long_form (pos n) = raw.Plain (9 + n)
long_form (negsuc n) = raw.Plain 9

-- ---- what is needed

-- what an instruction that weaving adds names
abbrev pub added_need : Program → Instr → Option Need
added_need w (Invokevirtual id) = Some (needed_method w id)
added_need w (Invokestatic id) = Some (needed_method w id)
added_need w (Checkcast ty) = Some (AClass (type_name w ty))
added_need w i = None

-- a call by its class, its name and its descriptor, as the file names them; the pool is the file's own
abbrev pub call_by : List Entry → ℕ → Option Entry → Option Need
call_by pool class (Some (entry.NameAndType name descriptor)) = Some (ACall class name (woven_descriptor (text_of pool descriptor)))
call_by pool class e = None

abbrev pub call_need : List Entry → Option Entry → Option Need
call_need pool (Some (entry.Methodref class member)) = call_by pool class (entry_at pool member)
call_need pool (Some (entry.InterfaceMethodref class member)) = call_by pool class (entry_at pool member)
call_need pool e = None

abbrev pub pauses : Option Method → Bool
pauses None = false
pauses (Some m) = m.pausable

-- the method that it calls pauses
abbrev pub is_pausable_call : Program → Instr → Bool
is_pausable_call w (Invokevirtual id) = pauses (method_at w id)
is_pausable_call w (Invokespecial id) = pauses (method_at w id)
is_pausable_call w (Invokestatic id) = pauses (method_at w id)
is_pausable_call w i = false

-- what an old instruction names anew
abbrev pub old_need : Program → List Entry → Instr → RawInstr → Option Need
old_need w pool i (raw.Index number index) = if is_pausable_call w i then call_need pool (entry_at pool index) else None
old_need w pool i r = None

-- ---- an instruction in its form, in the pool with all that is needed

abbrev pub index_or : List Entry → ℕ → Option Need → ℕ
index_or pool index None = index
index_or pool index (Some need) = index_of pool need

abbrev pub place_number : ℕ → ℤ
place_number n = pos n

-- what weaving adds
unfoldable pub added_raw : Program → List Entry → Instr → RawInstr
added_raw w pool (Iload slot) = local_form opcode.iload_0 opcode.iload slot
added_raw w pool (Lload slot) = local_form opcode.lload_0 opcode.lload slot
added_raw w pool (Aload slot) = local_form opcode.aload_0 opcode.aload slot
added_raw w pool (Istore slot) = local_form opcode.istore_0 opcode.istore slot
added_raw w pool (Lstore slot) = local_form opcode.lstore_0 opcode.lstore slot
added_raw w pool (Astore slot) = local_form opcode.astore_0 opcode.astore slot
added_raw w pool AconstNull = raw.Plain opcode.aconst_null
added_raw w pool (Iconst n) = int_form n
added_raw w pool (Lconst n) = long_form n
added_raw w pool (Bipush n) = raw.Byte opcode.bipush n
added_raw w pool (Sipush n) = raw.Short opcode.sipush n
added_raw w pool Pop = raw.Plain opcode.pop
added_raw w pool Pop2 = raw.Plain opcode.pop2
added_raw w pool Ireturn = raw.Plain opcode.ireturn
added_raw w pool Lreturn = raw.Plain opcode.lreturn
added_raw w pool Areturn = raw.Plain opcode.areturn
added_raw w pool Return = raw.Plain opcode.return
added_raw w pool (Ifeq to) = raw.Jump opcode.ifeq (pos to)
added_raw w pool (Goto to) = raw.Jump opcode.goto (pos to)
added_raw w pool (Tableswitch default low targets) = raw.TableSwitch opcode.tableswitch (pos default) low (map place_number targets)
added_raw w pool (Invokevirtual id) = raw.Index opcode.invokevirtual (index_of pool (needed_method w id))
added_raw w pool (Invokestatic id) = raw.Index opcode.invokestatic (index_of pool (needed_method w id))
added_raw w pool (Checkcast ty) = raw.Index opcode.checkcast (index_of pool (AClass (type_name w ty)))
added_raw w pool i = raw.Plain opcode.nop

-- where an old jump goes now
abbrev pub target_of : Instr → ℕ
target_of (Ifeq to) = to
target_of (Ifne to) = to
target_of (Iflt to) = to
target_of (Ifge to) = to
target_of (Ifgt to) = to
target_of (Ifle to) = to
target_of (IfIcmpeq to) = to
target_of (IfIcmpne to) = to
target_of (IfIcmplt to) = to
target_of (IfIcmpge to) = to
target_of (IfIcmpgt to) = to
target_of (IfIcmple to) = to
target_of (IfAcmpeq to) = to
target_of (IfAcmpne to) = to
target_of (Goto to) = to
target_of (Ifnull to) = to
target_of (Ifnonnull to) = to
target_of (GotoW to) = to
target_of i = 0

abbrev pub pair_number : ℤ × ℕ → ℤ × ℤ
pair_number e = (e.0, pos e.1)

-- a load or a store in its shortest form
abbrev pub shortest : Instr → RawInstr → RawInstr
shortest (Iload slot) r = local_form opcode.iload_0 opcode.iload slot
shortest (Lload slot) r = local_form opcode.lload_0 opcode.lload slot
shortest (Aload slot) r = local_form opcode.aload_0 opcode.aload slot
shortest (Istore slot) r = local_form opcode.istore_0 opcode.istore slot
shortest (Lstore slot) r = local_form opcode.lstore_0 opcode.lstore slot
shortest (Astore slot) r = local_form opcode.astore_0 opcode.astore slot
shortest i r = r

-- a switch where it goes now
abbrev pub switched : Instr → RawInstr → RawInstr
switched (Tableswitch default low targets) r = raw.TableSwitch opcode.tableswitch (pos default) low (map place_number targets)
switched (Lookupswitch default pairs) r = raw.LookupSwitch opcode.lookupswitch (pos default) (map pair_number pairs)
switched i r = r

-- An old instruction keeps its form and its index, but for jumps, loads, stores and pausable calls.
unfoldable pub moved_raw : Program → List Entry → List Entry → Instr → RawInstr → RawInstr
moved_raw w old pool i (raw.Plain number) = shortest i (raw.Plain number)
moved_raw w old pool i (raw.Local number slot) = shortest i (raw.Local number slot)
moved_raw w old pool i (raw.WideLocal number slot) = shortest i (raw.WideLocal number slot)
moved_raw w old pool i (raw.Jump number to) = raw.Jump number (pos (target_of i))
moved_raw w old pool i (raw.WideJump number to) = raw.WideJump number (pos (target_of i))
moved_raw w old pool i (raw.TableSwitch number default low targets) = switched i (raw.TableSwitch number default low targets)
moved_raw w old pool i (raw.LookupSwitch number default pairs) = switched i (raw.LookupSwitch number default pairs)
moved_raw w old pool i (raw.Index number index) = raw.Index number (index_or pool index (old_need w old i (raw.Index number index)))
moved_raw w old pool i r = r

-- ---- the code: the counted instructions are the old ones, in order

abbrev pub listed : Option Need → List Need
listed None = []
listed (Some need) = need ∷ []

abbrev pub code_needs : Program → List Entry → List (ℕ × Instr) → List Bool → List Placed → List Need
code_needs w old ((at, i) ∷ is) (true ∷ marks) (r ∷ rs) = listed (old_need w old i r.1) ++ code_needs w old is marks rs
code_needs w old ((at, i) ∷ is) (false ∷ marks) rs = listed (added_need w i) ++ code_needs w old is marks rs
code_needs w old _ _ _ = []

unfoldable pub raw_code : Program → List Entry → List Entry → List (ℕ × Instr) → List Bool → List Placed → List Placed
raw_code w old pool ((at, i) ∷ is) (true ∷ marks) (r ∷ rs) = (at, moved_raw w old pool i r.1) ∷ raw_code w old pool is marks rs
raw_code w old pool ((at, i) ∷ is) (false ∷ marks) rs = (at, added_raw w pool i) ∷ raw_code w old pool is marks rs
raw_code w old pool _ _ _ = []
