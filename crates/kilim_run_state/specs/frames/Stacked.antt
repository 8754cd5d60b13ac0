-- A stack of values as contracts see it (JVMS 2.6.2).
use Rattle.std.specs.Prelude.{ℕ, ◌-◌, Bool, true, false, List, [], ◌∷◌, ◌++◌, Option, Some, None, length, replicate}
use Rattle.kilim_run_state.specs.Machine.{slots_of}
use Rattle.kilim_program.specs.declared.value.Value.{Value}
use Rattle.kilim_program.specs.declared.value.Value.TheVariants.{Int, Long, Null, Ref}

-- the values, the top first, and how many there is room for
pub record Stacked : Type 0 where
  pub values : List Value
  pub room : ℕ

abbrev pub is_int : Value → Bool
is_int (Int x) = true
is_int v = false

abbrev pub is_long : Value → Bool
is_long (Long x) = true
is_long v = false

-- an object, or null
abbrev pub is_object : Value → Bool
is_object (Ref n) = true
is_object Null = true
is_object v = false

-- the topmost value passes a test
abbrev pub top_is : (Value → Bool) → List Value → Bool
top_is test [] = false
top_is test (v ∷ rest) = test v

-- an object's name as a value, or null
abbrev pub object_value : Option ℕ → Value
object_value None = Null
object_value (Some n) = Ref n

-- arguments as the first locals, and null in those that nothing was stored into yet
abbrev pub begun_with : List Value → ℕ → List Value
begun_with args slots = slots_of args ++ replicate (slots - length (slots_of args)) Null
