-- What a task works on: objects by their names, and the frames of its calls.
use Rattle.kilim_program.specs.declared.value.Value.TheVariants.{Null, Long}
use Rattle.std.specs.Prelude.{ℕ, ◌==◌, if◌then◌else◌, List, [], ◌∷◌, Option, Some, None}
use Rattle.std.specs.Ordering.{nat_cmp}
use Rattle.std.specs.FinMap.{FinMap}
use Rattle.kilim_program.specs.declared.instr.Instr.{Instr}
use Rattle.kilim_program.specs.declared.names.MethodId.{MethodId}
use Rattle.kilim_program.specs.declared.value.Value.{Value}
use Rattle.kilim_run_state.specs.declared.value.Object.{Object}
use Rattle.kilim_program.specs.Lengths.{first_place}

-- A heap: objects by their names, which are numbers. It is read by `get` and written by `insert` alone.
abbrev pub Objects : Type 0
Objects = FinMap nat_cmp Object

-- A frame of the machine (JVMS 2.6): a method, a place, the locals by slot, and the operand stack, the top
-- first. The place of a task's top frame is that of its next instruction. A frame below another one has the
-- place behind its call, and the arguments of the call are no longer on its stack. A long is one item of the
-- stack, and in the locals a value and a slot that is never read.
pub record Activation : Type 0 where
  pub method : MethodId
  pub place : ℕ
  pub locals : List Value
  pub stack : List Value

-- The instruction behind which a place stands, with the instruction's own place: in a frame below another one, its
-- call.
abbrev pub stands_behind : List (ℕ × Instr) → ℕ → ℕ → Option (ℕ × Instr)
stands_behind [] end place = None
stands_behind (entry ∷ entries) end place = if first_place entries end == place then Some entry else stands_behind entries end place

-- arguments as locals: a long takes two slots
abbrev pub slots_of : List Value → List Value
slots_of [] = []
slots_of (Long n ∷ vs) = Long n ∷ Null ∷ slots_of vs
slots_of (v ∷ vs) = v ∷ slots_of vs
