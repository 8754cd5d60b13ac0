-- Which method a call reaches, and how its operands stand on the stack.
use Rattle.std.specs.Prelude.{◌≡◌, ℕ, ℤ, pos, negsuc, if◌then◌else◌, List, ◌∷◌, Option, None, slice_get}
use Rattle.kilim_program.specs.declared.class.Method.{Method}
use Rattle.kilim_program.specs.declared.names.MethodId.{MethodId}
use Rattle.kilim_program.specs.declared.value.Value.{Value}
use Rattle.kilim_program.specs.Program.{Program}
use Rattle.kilim_run_state.specs.declared.cause.EndCause.TheVariants as cause
use Rattle.kilim_run_state.specs.Machine.{Objects}
use Rattle.kilim_run_machine.specs.Effect.{Effect, Calls, Asks, Raises, Stuck, on_value, on_values, as_class}
use Rattle.kilim_run_machine.specs.Does.{calls_on, gives_message, keeps_message}
use Rattle.kilim_run_machine.specs.Natives.{is_get_message, is_message_constructor}
use Rattle.kilim_run_interp.specs.declared.instruction.calls.Target.{Target}
use Rattle.kilim_run_interp.specs.declared.instruction.calls.Target.TheVariants.{NoReceiver, WithCode, BuiltIn, KeepsMessage, GivesMessage, Nowhere, NoMemory}

-- so many arguments from the top, the topmost first, and the receiver below them
abbrev pub on_call : ℕ → List Value → (List Value → Value → List Value → Effect) → Effect
on_call n stack go = on_values n stack (λ args below. on_value below (λ receiver rest. go args receiver rest))

-- what a call of a built-in method that has a receiver comes to
abbrev pub built_in_target : MethodId → Method → Target
built_in_target id method = if is_message_constructor method then KeepsMessage else (if is_get_message method then GivesMessage else BuiltIn id)

-- what a call on a receiver reaches, whatever its arguments
abbrev pub Reaches : Program → Method → MethodId → Value → Objects → Target → Type 0
Reaches p named m receiver heap NoReceiver = (args : List Value) (next : ℕ) (ls rest : List Value) → as_class p receiver heap (calls_on p named m args next ls rest heap receiver) ≡ Raises cause.Null
Reaches p named m receiver heap (WithCode id) = (args : List Value) (next : ℕ) (ls rest : List Value) → as_class p receiver heap (calls_on p named m args next ls rest heap receiver) ≡ Calls id (receiver ∷ args) next ls rest heap
Reaches p named m receiver heap (BuiltIn id) = (args : List Value) (next : ℕ) (ls rest : List Value) → as_class p receiver heap (calls_on p named m args next ls rest heap receiver) ≡ Asks id (receiver ∷ args) next ls rest heap
Reaches p named m receiver heap KeepsMessage = (args : List Value) (next : ℕ) (ls rest : List Value) → as_class p receiver heap (calls_on p named m args next ls rest heap receiver) ≡ keeps_message (receiver ∷ args) next ls rest heap
Reaches p named m receiver heap GivesMessage = (args : List Value) (next : ℕ) (ls rest : List Value) → as_class p receiver heap (calls_on p named m args next ls rest heap receiver) ≡ gives_message (receiver ∷ args) next ls rest heap
Reaches p named m receiver heap Nowhere = (args : List Value) (next : ℕ) (ls rest : List Value) → as_class p receiver heap (calls_on p named m args next ls rest heap receiver) ≡ Stuck
Reaches p named m receiver heap NoMemory = Unit {0}

-- a unit of a text, by an int
abbrev pub unit_in : List ℕ → ℤ → Option ℕ
unit_in units (negsuc i) = None
unit_in units (pos i) = slice_get units i
