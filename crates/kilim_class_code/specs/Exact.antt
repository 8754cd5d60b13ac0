-- Which bytes are a code array, and what the first fault of others is.
use Rattle.std.specs.Prelude.{◌≡◌, ◌≢◌, ◌⊎◌, ℕ, true, ℤ, List, [], ◌++◌, length, Option, Some, None, Err}
use Rattle.std.specs.List.{AllByRecursion}
use Rattle.kilim_class_code.specs.declared.opcodes.fault.OpFault.{OpFault}
use Rattle.kilim_class_code.specs.declared.opcodes.fault.OpFault.TheVariants as op
use Rattle.kilim_class_code.specs.opcodes.Reading.{instr_at}
use Rattle.kilim_class_code.specs.declared.fault.CodeFault.{CodeFault}
use Rattle.kilim_class_code.specs.declared.fault.CodeFault.TheVariants.{Op, MidTarget, FallsOff, Memory}
use Rattle.kilim_class_code.specs.Code.{Placed, code_text, StandsFrom, targets_of, is_place, mid_target, falls_off}

-- bytes are the text of instructions, from the first byte to the last
pub record IsCode (bytes : List ℕ) (code : List Placed) : Type 0 where
  pub stands : StandsFrom 0 code (length bytes)
  pub text : bytes ≡ code_text code

-- which instructions have a text as a code array
pub record BodyFits (code : List Placed) : Type 0 where
  pub stands : StandsFrom 0 code (length (code_text code))
  pub targets : mid_target code ≡ None
  pub last : falls_off code ≡ None

-- What stands before the place is the text of instructions, and there begins, before the end of the bytes, no
-- instruction, with this fault.
pub record OpFails (bytes : List ℕ) (fault : OpFault) (at : ℕ) : Type 0 where
  pub front : List Placed
  pub rest : List ℕ
  pub stands : StandsFrom 0 front at
  pub parts : bytes ≡ code_text front ++ rest
  pub some : rest ≢ []
  pub there : instr_at at rest ≡ Err fault
  pub own : fault ≢ op.Memory

pub record TargetFails (bytes : List ℕ) (at : ℕ) (to : ℤ) : Type 0 where
  pub code : List Placed
  pub is : IsCode bytes code
  pub mid : mid_target code ≡ Some (at, to)

pub record EndFails (bytes : List ℕ) (at : ℕ) : Type 0 where
  pub code : List Placed
  pub is : IsCode bytes code
  pub targets : mid_target code ≡ None
  pub last : falls_off code ≡ Some at

unfoldable pub HasFault : List ℕ → CodeFault → Type 0
HasFault bytes (Op fault at) = OpFails bytes fault at
HasFault bytes (MidTarget at to) = TargetFails bytes at to
HasFault bytes (FallsOff at) = EndFails bytes at
HasFault bytes Memory = ⊥

-- the first fault of instructions that stand one behind the other: of a target, or else of the end
abbrev pub target_or_end : Option (ℕ × ℤ) → Option ℕ → Option CodeFault
target_or_end (Some jump) last = Some (MidTarget jump.0 jump.1)
target_or_end None (Some at) = Some (FallsOff at)
target_or_end None None = None

unfoldable pub body_fault : List Placed → Option CodeFault
body_fault code = target_or_end (mid_target code) (falls_off code)

-- what a fault of the instruction at a place is of the code
abbrev pub op_fault : ℕ → OpFault → CodeFault
op_fault at op.Memory = Memory
op_fault at (op.Unknown number) = Op (op.Unknown number) at
op_fault at op.Cut = Op op.Cut at
op_fault at (op.LeftOut number) = Op (op.LeftOut number) at

-- want of memory, or just this fault
abbrev pub IsUnlessMemory : CodeFault → CodeFault → Type 0
IsUnlessMemory fault e = (e ≡ Memory) ⊎ (e ≡ fault)

-- no two lists of instructions have one text
abbrev pub OneCode : Type 0
OneCode = (a b : List Placed) → BodyFits a → BodyFits b → code_text a ≡ code_text b → a ≡ b

-- a code has one fault at most, and code with a fault is no text
pub record OneFault : Type 0 where
  pub one : (bytes : List ℕ) (d e : CodeFault) → HasFault bytes d → HasFault bytes e → d ≡ e
  pub apart : (bytes : List ℕ) (e : CodeFault) (code : List Placed) → HasFault bytes e → BodyFits code → bytes ≡ code_text code → ⊥

-- each target is the place of an instruction
abbrev pub TargetsArePlaces : Type 0
TargetsArePlaces = (code : List Placed) → mid_target code ≡ None → AllByRecursion (λ (p : Placed). AllByRecursion (λ to. is_place code to ≡ true) (targets_of p.1)) code
