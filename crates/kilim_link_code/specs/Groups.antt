-- The instructions without operands in groups, as the code asks for them.
use Rattle.std.specs.Prelude.{ℕ, pos, negsuc, List, [], ◌∷◌, ◌++◌}
use Rattle.kilim_program.specs.declared.instr.Instr.{Instr}
use Rattle.kilim_program.specs.declared.instr.Instr.TheVariants as instr

abbrev pub reference_and_array_loads : List (ℕ × Instr)
reference_and_array_loads = (42, instr.Aload 0) ∷ (43, instr.Aload 1) ∷ (44, instr.Aload 2) ∷ (45, instr.Aload 3) ∷ (46, instr.Iaload) ∷ (47, instr.Laload) ∷ (50, instr.Aaload) ∷ (51, instr.Baload) ∷ (52, instr.Caload) ∷ (53, instr.Saload) ∷ []

abbrev pub local_stores : List (ℕ × Instr)
local_stores = (59, instr.Istore 0) ∷ (60, instr.Istore 1) ∷ (61, instr.Istore 2) ∷ (62, instr.Istore 3) ∷ (63, instr.Lstore 0) ∷ (64, instr.Lstore 1) ∷ (65, instr.Lstore 2) ∷ (66, instr.Lstore 3) ∷ (75, instr.Astore 0) ∷ (76, instr.Astore 1) ∷ (77, instr.Astore 2) ∷ (78, instr.Astore 3) ∷ []

abbrev pub array_stores_and_stack_moves : List (ℕ × Instr)
array_stores_and_stack_moves = (79, instr.Iastore) ∷ (80, instr.Lastore) ∷ (83, instr.Aastore) ∷ (84, instr.Bastore) ∷ (85, instr.Castore) ∷ (86, instr.Sastore) ∷ (87, instr.Pop) ∷ (88, instr.Pop2) ∷ (89, instr.Dup) ∷ (90, instr.DupX1) ∷ (91, instr.DupX2) ∷ (92, instr.Dup2) ∷ (93, instr.Dup2X1) ∷ (94, instr.Dup2X2) ∷ (95, instr.Swap) ∷ []

abbrev pub arithmetic : List (ℕ × Instr)
arithmetic = (96, instr.Iadd) ∷ (97, instr.Ladd) ∷ (100, instr.Isub) ∷ (101, instr.Lsub) ∷ (104, instr.Imul) ∷ (105, instr.Lmul) ∷ (108, instr.Idiv) ∷ (109, instr.Ldiv) ∷ (112, instr.Irem) ∷ (113, instr.Lrem) ∷ (116, instr.Ineg) ∷ (117, instr.Lneg) ∷ []

abbrev pub shifts_and_bit_operations : List (ℕ × Instr)
shifts_and_bit_operations = (120, instr.Ishl) ∷ (121, instr.Lshl) ∷ (122, instr.Ishr) ∷ (123, instr.Lshr) ∷ (124, instr.Iushr) ∷ (125, instr.Lushr) ∷ (126, instr.Iand) ∷ (127, instr.Land) ∷ (128, instr.Ior) ∷ (129, instr.Lor) ∷ (130, instr.Ixor) ∷ (131, instr.Lxor) ∷ []

abbrev pub conversions_and_returns : List (ℕ × Instr)
conversions_and_returns = (133, instr.I2l) ∷ (136, instr.L2i) ∷ (145, instr.I2b) ∷ (146, instr.I2c) ∷ (147, instr.I2s) ∷ (148, instr.Lcmp) ∷ (172, instr.Ireturn) ∷ (173, instr.Lreturn) ∷ (176, instr.Areturn) ∷ (177, instr.Return) ∷ (190, instr.Arraylength) ∷ (191, instr.Athrow) ∷ []

-- ---- a group, and those behind it

abbrev pub from_shifts : List (ℕ × Instr)
from_shifts = shifts_and_bit_operations ++ conversions_and_returns

abbrev pub from_arithmetic : List (ℕ × Instr)
from_arithmetic = arithmetic ++ from_shifts

abbrev pub from_array_stores : List (ℕ × Instr)
from_array_stores = array_stores_and_stack_moves ++ from_arithmetic

abbrev pub from_local_stores : List (ℕ × Instr)
from_local_stores = local_stores ++ from_array_stores

abbrev pub from_array_loads : List (ℕ × Instr)
from_array_loads = reference_and_array_loads ++ from_local_stores
