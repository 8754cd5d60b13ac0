-- Code arrays: the text of instructions one behind the other (JVMS 4.7.3), and what is asked of them (JVMS 4.9).
use Rattle.std.specs.Prelude.{◌≡◌, ℕ, ◌+◌, ◌-◌, ◌==◌, ◌||◌, Bool, true, false, not, if◌then◌else◌, ℤ, pos, negsuc, List, [], ◌∷◌, length, map, slice_get, Option, Some, None}
use Rattle.std.specs.List.{flat_map, find}
use Rattle.kilim_class_code.specs.opcodes.Numbers as opcode
use Rattle.kilim_class_code.specs.declared.opcodes.instr.RawInstr.{RawInstr}
use Rattle.kilim_class_code.specs.declared.opcodes.instr.RawInstr.TheVariants.{Plain, Jump, WideJump, TableSwitch, LookupSwitch}
use Rattle.kilim_class_code.specs.opcodes.Instr.{instr_text, instr_len, InstrFits}

-- an instruction with its place
abbrev pub Placed : Type 0
Placed = ℕ × RawInstr

abbrev pub placed_text : Placed → List ℕ
placed_text p = instr_text p.0 p.1

unfoldable pub code_text : List Placed → List ℕ
code_text code = flat_map placed_text code

-- The first instruction stands at a place, each next one behind the bytes of the one before, and the code ends behind
-- the last: so the places increase, and the distance between two is the length of the instruction's form there.
unfoldable pub StandsFrom : ℕ → List Placed → ℕ → Type 0
StandsFrom at [] end = at ≡ end
StandsFrom at (p ∷ code) end = (p.0 ≡ at) × InstrFits at p.1 × StandsFrom (at + instr_len at p.1) code end

-- where control may go other than to the next instruction: of a switch the default first
unfoldable pub targets_of : RawInstr → List ℤ
targets_of (Jump op to) = to ∷ []
targets_of (WideJump op to) = to ∷ []
targets_of (TableSwitch op default low targets) = default ∷ targets
targets_of (LookupSwitch op default pairs) = default ∷ map (λ pair. pair.1) pairs
targets_of _ = []

-- the place of an instruction
abbrev pub is_at : ℤ → ℕ → Bool
is_at (pos to) at = to == at
is_at (negsuc to) at = false

unfoldable pub is_place : List Placed → ℤ → Bool
is_place [] to = false
is_place (p ∷ code) to = is_at to p.0 || is_place code to

-- the first target, in code order, that doesn't pass, with the place of its instruction
abbrev pub with_place : ℕ → Option ℤ → Option (ℕ × ℤ) → Option (ℕ × ℤ)
with_place at None later = later
with_place at (Some to) later = Some (at, to)

unfoldable pub first_failing : (ℤ → Bool) → List Placed → Option (ℕ × ℤ)
first_failing passes [] = None
first_failing passes (p ∷ code) = with_place p.0 (find (λ to. not (passes to)) (targets_of p.1)) (first_failing passes code)

-- a target in the middle of an instruction, or outside the code
unfoldable pub mid_target : List Placed → Option (ℕ × ℤ)
mid_target code = first_failing (is_place code) code

-- goto, goto_w, the switches and the returns
unfoldable pub ends : RawInstr → Bool
ends (Plain op) = op == opcode.ireturn || op == opcode.lreturn || op == opcode.areturn || op == opcode.return || op == opcode.athrow
ends (Jump op to) = op == opcode.goto
ends (WideJump op to) = true
ends (TableSwitch op default low targets) = true
ends (LookupSwitch op default pairs) = true
ends _ = false

-- the place of the last instruction, where control goes on past it; where there is none, the code's start
abbrev pub falls : Option Placed → Option ℕ
falls None = Some 0
falls (Some p) = if ends p.1 then None else Some p.0

unfoldable pub falls_off : List Placed → Option ℕ
falls_off code = falls (slice_get code (length code - 1))
