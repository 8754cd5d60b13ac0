-- Reading one instruction from its first byte on, or the fault of its first part that isn't spelled.
use Rattle.std.specs.Prelude.{ℕ, zero, suc, ◌+◌, ◌^◌, Bool, true, ◌==◌, ◌||◌, nat_lt, int_lt, int_le, if◌then◌else◌, ℤ, pos, negsuc, ◌+ℤ◌, ◌-ℤ◌, unsigned_abs, List, [], ◌∷◌, Option, Some, None, Result, Ok, Err}
use Rattle.std.specs.Int.{Width, w8, w16, w32}
use Rattle.kilim_class_grammar.specs.Reader.{Reader, ◌>>=◌, checked, number_at, signed_at, given, both, followed, made, tested, many}
use Rattle.kilim_class_code.specs.declared.opcodes.forms.OpForm.{OpForm}
use Rattle.kilim_class_code.specs.declared.opcodes.forms.OpForm.TheVariants as form
use Rattle.kilim_class_code.specs.declared.opcodes.fault.OpFault.{OpFault}
use Rattle.kilim_class_code.specs.declared.opcodes.fault.OpFault.TheVariants.{Unknown, Cut, LeftOut}
use Rattle.kilim_class_code.specs.declared.opcodes.instr.RawInstr.{RawInstr}
use Rattle.kilim_class_code.specs.declared.opcodes.instr.RawInstr.TheVariants.{Plain, Byte, Short, Local, Constant, Index, Iinc, Jump, WideJump, NewArray, TableSwitch, LookupSwitch, WideLocal, WideIinc}
use Rattle.kilim_class_code.specs.opcodes.Table.{form_of, unlisted}
use Rattle.kilim_class_code.specs.opcodes.Instr.{padding, is_array_code, wide_op}

abbrev pub InstrReader : Type 0 → Type 0
InstrReader A = Reader OpFault A

-- a number, and a signed one
abbrev pub unsigned_at : Width → InstrReader ℕ
unsigned_at w = number_at Cut w

abbrev pub integer_at : Width → InstrReader ℤ
integer_at w = signed_at Cut w

-- a place is an i64
abbrev pub is_place : ℤ → Bool
is_place (pos n) = nat_lt n (2 ^ 63)
is_place (negsuc n) = nat_lt n (2 ^ 63)

abbrev pub place_of : ℕ → ℤ → Option ℤ
place_of at distance = if is_place (pos at +ℤ distance) then Some (pos at +ℤ distance) else None

-- a target, from its distance to the place of the instruction with this number
unfoldable pub target_at : ℕ → ℕ → Width → InstrReader ℤ
target_at op at w = tested is_place (λ to. Unknown op) (made (λ distance. pos at +ℤ distance) (integer_at w))

-- the bytes behind so many zeros
unfoldable pub zeros_at : ℕ → ℕ → List ℕ → Result (List ℕ) OpFault
zeros_at op zero bytes = Ok bytes
zeros_at op (suc n) bytes = do
  b ← unsigned_at w8 bytes
  checked (b.0 == 0) (Unknown op) (zeros_at op n b.1)

abbrev pub behind_zeros : {A : Type 0} → ℕ → ℕ → InstrReader A → InstrReader A
behind_zeros op n one bytes = do
  rest ← zeros_at op n bytes
  one rest

-- the low and the high of a tableswitch
unfoldable pub range_at : ℕ → InstrReader (ℤ × ℤ)
range_at op = tested (λ range. int_le range.0 range.1) (λ range. Unknown op) (both (integer_at w32) (integer_at w32))

abbrev pub targets_in : ℤ × ℤ → ℕ
targets_in range = unsigned_abs (range.1 -ℤ range.0) + 1

unfoldable pub table_at : ℕ → ℕ → InstrReader RawInstr
table_at op at =
    made (λ x. TableSwitch op x.0.0 x.0.1.0 x.1)
    (followed (both (target_at op at w32) (range_at op)) (λ head. many (target_at op at w32) (targets_in head.1)))

-- the count of a lookupswitch, which as a signed number isn't negative
unfoldable pub count_at : ℕ → InstrReader ℕ
count_at op = tested (λ count. nat_lt count (2 ^ 31)) (λ count. Unknown op) (unsigned_at w32)

-- matches that increase
abbrev pub is_above : Option ℤ → ℤ → Bool
is_above None key = true
is_above (Some least) key = int_lt least key

unfoldable pub pair_at : ℕ → ℕ → Option ℤ → InstrReader (ℤ × ℤ)
pair_at op at least = both (tested (is_above least) (λ key. Unknown op) (integer_at w32)) (target_at op at w32)

unfoldable pub pairs_at : ℕ → ℕ → ℕ → Option ℤ → InstrReader (List (ℤ × ℤ))
pairs_at op at zero least bytes = Ok ([], bytes)
pairs_at op at (suc n) least bytes = do
  first ← pair_at op at least bytes
  others ← pairs_at op at n (Some first.0.0) first.1
  Ok (first.0 ∷ others.0, others.1)

unfoldable pub lookup_at : ℕ → ℕ → InstrReader RawInstr
lookup_at op at =
    made (λ x. LookupSwitch op x.0.0 x.1)
    (followed (both (target_at op at w32) (count_at op)) (λ head. pairs_at op at head.1 None))

-- float and double are left out
abbrev pub array_fault : ℕ → ℕ → OpFault
array_fault op code = if code == 6 || code == 7 then LeftOut op else Unknown op

-- behind `wide`, and the number of an instruction of this layout
unfoldable pub wide_operands_at : ℕ → Option OpForm → InstrReader RawInstr
wide_operands_at op (Some form.Local) = made (WideLocal op) (unsigned_at w16)
wide_operands_at op (Some form.Iinc) = made (λ x. WideIinc op x.0 x.1) (both (unsigned_at w16) (integer_at w16))
wide_operands_at op _ = λ bytes. Err (Unknown wide_op)

unfoldable pub wide_at : InstrReader RawInstr
wide_at bytes = do
  op ← unsigned_at w8 bytes
  wide_operands_at op.0 (form_of op.0) op.1

-- behind the number of an instruction of this layout, which begins at a place
unfoldable pub operands_at : ℕ → ℕ → OpForm → InstrReader RawInstr
operands_at at op form.Plain = given (Plain op)
operands_at at op form.Byte = made (Byte op) (integer_at w8)
operands_at at op form.Short = made (Short op) (integer_at w16)
operands_at at op form.Local = made (Local op) (unsigned_at w8)
operands_at at op form.Constant = made (Constant op) (unsigned_at w8)
operands_at at op form.Index = made (Index op) (unsigned_at w16)
operands_at at op form.Iinc = made (λ x. Iinc op x.0 x.1) (both (unsigned_at w8) (integer_at w8))
operands_at at op form.Jump = made (Jump op) (target_at op at w16)
operands_at at op form.WideJump = made (WideJump op) (target_at op at w32)
operands_at at op form.NewArray = made (NewArray op) (tested is_array_code (array_fault op) (unsigned_at w8))
operands_at at op form.TableSwitch = behind_zeros op (padding at) (table_at op at)
operands_at at op form.LookupSwitch = behind_zeros op (padding at) (lookup_at op at)
operands_at at op form.Wide = wide_at

abbrev pub listed_at : ℕ → ℕ → Option OpForm → InstrReader RawInstr
listed_at at op None bytes = Err (unlisted op)
listed_at at op (Some layout) bytes = operands_at at op layout bytes

-- the instruction that begins at a place, with these bytes from there on
unfoldable pub instr_at : ℕ → InstrReader RawInstr
instr_at at bytes = do
  op ← unsigned_at w8 bytes
  listed_at at op.0 (form_of op.0) op.1
