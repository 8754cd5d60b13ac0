-- The text of one instruction (JVMS 6.5), its length in bytes, and which instructions have a text.
use Rattle.std.specs.Prelude.{◌≡◌, ℕ, ◌+◌, ◌-◌, ◌*◌, ◌%◌, ◌^◌, ◌<◌, ◌||◌, ◌&&◌, nat_le, Bool, true, ◌==◌, ℤ, pos, ◌+ℤ◌, ◌-ℤ◌, ◌<ℤ◌, List, [], ◌∷◌, ◌++◌, length, replicate, Option, Some, None, FitsSigned}
use Rattle.std.specs.List.{flat_map, AllByRecursion}
use Rattle.std.specs.Int.{Width, w8, w16, w32, w64}
use Rattle.kilim_class_grammar.specs.Spelling.{u1, u2, u4, signed}
use Rattle.kilim_class_code.specs.declared.opcodes.forms.OpForm.{OpForm}
use Rattle.kilim_class_code.specs.declared.opcodes.forms.OpForm.TheVariants as form
use Rattle.kilim_class_code.specs.declared.opcodes.instr.RawInstr.{RawInstr}
use Rattle.kilim_class_code.specs.declared.opcodes.instr.RawInstr.TheVariants.{Plain, Byte, Short, Local, Constant, Index, Iinc, Jump, WideJump, NewArray, TableSwitch, LookupSwitch, WideLocal, WideIinc}
use Rattle.kilim_class_code.specs.opcodes.Table.{form_of}

-- the number of `wide`
abbrev pub wide_op : ℕ
wide_op = 196

-- a signed number
unfoldable pub integer_text : Width → ℤ → List ℕ
integer_text w z = signed w z

-- a target is written as its distance from the place of the instruction
unfoldable pub target_text : Width → ℕ → ℤ → List ℕ
target_text w at to = integer_text w (to -ℤ pos at)

-- the bytes between a switch's number and its default, which begins at a multiple of four from the method's start
abbrev pub padding : ℕ → ℕ
padding at = (4 - (at + 1) % 4) % 4

unfoldable pub padding_text : ℕ → List ℕ
padding_text at = replicate (padding at) 0

-- the match of the last of a tableswitch's targets
abbrev pub high_of : ℤ → List ℤ → ℤ
high_of low targets = (low +ℤ pos (length targets)) -ℤ pos 1

unfoldable pub pair_text : ℕ → ℤ × ℤ → List ℕ
pair_text at pair = integer_text w32 pair.0 ++ target_text w32 at pair.1

unfoldable pub table_text : ℕ → ℤ → ℤ → List ℤ → List ℕ
table_text at default low targets = (target_text w32 at default ++ (integer_text w32 low ++ integer_text w32 (high_of low targets))) ++ flat_map (target_text w32 at) targets

unfoldable pub lookup_text : ℕ → ℤ → List (ℤ × ℤ) → List ℕ
lookup_text at default pairs = (target_text w32 at default ++ u4 (length pairs)) ++ flat_map (pair_text at) pairs

-- the number at which it begins
unfoldable pub number_of : RawInstr → ℕ
number_of (Plain op) = op
number_of (Byte op n) = op
number_of (Short op n) = op
number_of (Local op slot) = op
number_of (Constant op index) = op
number_of (Index op index) = op
number_of (Iinc op slot n) = op
number_of (Jump op to) = op
number_of (WideJump op to) = op
number_of (NewArray op code) = op
number_of (TableSwitch op default low targets) = op
number_of (LookupSwitch op default pairs) = op
number_of (WideLocal op slot) = wide_op
number_of (WideIinc op slot n) = wide_op

-- what stands behind the number of an instruction at a place
unfoldable pub operands_text : ℕ → RawInstr → List ℕ
operands_text at (Plain op) = []
operands_text at (Byte op n) = integer_text w8 n
operands_text at (Short op n) = integer_text w16 n
operands_text at (Local op slot) = u1 slot
operands_text at (Constant op index) = u1 index
operands_text at (Index op index) = u2 index
operands_text at (Iinc op slot n) = u1 slot ++ integer_text w8 n
operands_text at (Jump op to) = target_text w16 at to
operands_text at (WideJump op to) = target_text w32 at to
operands_text at (NewArray op code) = u1 code
operands_text at (TableSwitch op default low targets) = padding_text at ++ table_text at default low targets
operands_text at (LookupSwitch op default pairs) = padding_text at ++ lookup_text at default pairs
operands_text at (WideLocal op slot) = u1 op ++ u2 slot
operands_text at (WideIinc op slot n) = u1 op ++ (u2 slot ++ integer_text w16 n)

unfoldable pub instr_text : ℕ → RawInstr → List ℕ
instr_text at instr = u1 (number_of instr) ++ operands_text at instr

-- the length of its form there, in bytes
unfoldable pub instr_len : ℕ → RawInstr → ℕ
instr_len at (Plain op) = 1
instr_len at (Byte op n) = 2
instr_len at (Short op n) = 3
instr_len at (Local op slot) = 2
instr_len at (Constant op index) = 2
instr_len at (Index op index) = 3
instr_len at (Iinc op slot n) = 3
instr_len at (Jump op to) = 3
instr_len at (WideJump op to) = 5
instr_len at (NewArray op code) = 2
instr_len at (TableSwitch op default low targets) = 13 + padding at + 4 * length targets
instr_len at (LookupSwitch op default pairs) = 9 + padding at + 8 * length pairs
instr_len at (WideLocal op slot) = 4
instr_len at (WideIinc op slot n) = 6

-- the number is that of an instruction with this layout
abbrev pub HasForm : ℕ → OpForm → Type 0
HasForm op layout = form_of op ≡ Some layout

-- a place is an i64, and so far away that its distance fits
abbrev pub TargetFits : Width → ℕ → ℤ → Type 0
TargetFits w at to = FitsSigned w64 to × FitsSigned w (to -ℤ pos at)

-- boolean, char, byte, short, int, long
abbrev pub is_array_code : ℕ → Bool
is_array_code code = code == 4 || code == 5 || (nat_le 8 code && nat_le code 11)

-- The matches of a lookupswitch increase, from above one that stands before them.
abbrev pub IsAbove : Option ℤ → ℤ → Type 0
IsAbove None key = Unit {0}
IsAbove (Some least) key = least <ℤ key

abbrev pub PairsFit : ℕ → Option ℤ → List (ℤ × ℤ) → Type 0
PairsFit at least [] = Unit {0}
PairsFit at least (pair ∷ pairs) = (IsAbove least pair.0 × FitsSigned w32 pair.0 × TargetFits w32 at pair.1) × PairsFit at (Some pair.0) pairs

-- Which instructions have a text at a place: each operand and distance fits its form.
unfoldable pub InstrFits : ℕ → RawInstr → Type 0
InstrFits at (Plain op) = HasForm op form.Plain
InstrFits at (Byte op n) = HasForm op form.Byte × FitsSigned w8 n
InstrFits at (Short op n) = HasForm op form.Short × FitsSigned w16 n
InstrFits at (Local op slot) = HasForm op form.Local × (slot < 2 ^ 8)
InstrFits at (Constant op index) = HasForm op form.Constant × (index < 2 ^ 8)
InstrFits at (Index op index) = HasForm op form.Index × (index < 2 ^ 16)
InstrFits at (Iinc op slot n) = HasForm op form.Iinc × ((slot < 2 ^ 8) × FitsSigned w8 n)
InstrFits at (Jump op to) = HasForm op form.Jump × TargetFits w16 at to
InstrFits at (WideJump op to) = HasForm op form.WideJump × TargetFits w32 at to
InstrFits at (NewArray op code) = HasForm op form.NewArray × (is_array_code code ≡ true)
InstrFits at (TableSwitch op default low targets) = HasForm op form.TableSwitch × (TargetFits w32 at default × FitsSigned w32 low × FitsSigned w32 (high_of low targets) × (0 < length targets) × AllByRecursion (TargetFits w32 at) targets)
InstrFits at (LookupSwitch op default pairs) = HasForm op form.LookupSwitch × (TargetFits w32 at default × (length pairs < 2 ^ 31) × PairsFit at None pairs)
InstrFits at (WideLocal op slot) = HasForm op form.Local × (slot < 2 ^ 16)
InstrFits at (WideIinc op slot n) = HasForm op form.Iinc × ((slot < 2 ^ 16) × FitsSigned w16 n)
