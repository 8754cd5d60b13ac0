-- What is said of reading and writing, and the laws of one instruction.
use Rattle.std.specs.Prelude.{◌≡◌, ◌⊎◌, ℕ, ◌+◌, List, ◌++◌, length, drop, Err}
use Rattle.kilim_class_grammar.specs.Format.{Format}
use Rattle.kilim_class_code.specs.declared.opcodes.fault.OpFault.{OpFault}
use Rattle.kilim_class_code.specs.declared.opcodes.fault.OpFault.TheVariants.{Memory}
use Rattle.kilim_class_code.specs.declared.opcodes.instr.RawInstr.{RawInstr}
use Rattle.kilim_class_code.specs.opcodes.Instr.{instr_text, instr_len, InstrFits}
use Rattle.kilim_class_code.specs.opcodes.Reading.{instr_at}

-- the instruction begins at a place of the code, and the next place is behind it
pub record Stands (code : List ℕ) (at : ℕ) (instr : RawInstr) (next : ℕ) : Type 0 where
  pub fits : InstrFits at instr
  pub parts : drop at code ≡ instr_text at instr ++ drop next code
  pub behind : next ≡ at + instr_len at instr

-- no instruction begins there: its first part that isn't spelled has this fault
abbrev pub HasFault : List ℕ → ℕ → OpFault → Type 0
HasFault code at fault = instr_at at (drop at code) ≡ Err fault

-- want of memory, or just this fault
abbrev pub IsUnlessMemory : OpFault → OpFault → Type 0
IsUnlessMemory fault e = (e ≡ Memory) ⊎ (e ≡ fault)

-- What is read is spelled so, and what is spelled is read again, whatever follows. So no two instructions begin in
-- the same way.
abbrev pub OneSpelling : Type 0
OneSpelling = (at : ℕ) → Format (instr_text at) (instr_at at) (InstrFits at)

-- The text has the length of the instruction's form.
abbrev pub Lengths : Type 0
Lengths = (at : ℕ) (instr : RawInstr) → length (instr_text at instr) ≡ instr_len at instr
