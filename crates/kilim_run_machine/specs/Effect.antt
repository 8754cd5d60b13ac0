-- What an instruction does with a frame and a heap, and words for how it takes its operands.
use Rattle.kilim_program.specs.Members.{named_type}
use Rattle.std.specs.Prelude.{ℕ, zero, suc, ℤ, pos, negsuc, Bool, true, false, not, List, [], ◌∷◌, Option, Some, None, slice_get, codes}
use Rattle.std.specs.FinMap.{get}
use Rattle.kilim_program.specs.declared.ty.Ty.{Ty}
use Rattle.kilim_program.specs.Program.{Program}
use Rattle.kilim_program.specs.declared.names.ClassId.{ClassId}
use Rattle.kilim_program.specs.declared.names.MethodId.{MethodId}
use Rattle.kilim_run_state.specs.declared.cause.EndCause.{EndCause}
use Rattle.kilim_run_state.specs.declared.cause.EndCause.TheVariants as cause
use Rattle.kilim_program.specs.declared.value.Value.{Value}
use Rattle.kilim_program.specs.declared.value.Value.TheVariants.{Int, Long, Null, Ref, Text, Box, Fiber}
use Rattle.kilim_run_state.specs.declared.value.Object.{Object}
use Rattle.kilim_run_state.specs.Machine.{Objects}

pub data Effect : Type 0 where
  -- the frame goes on at that place
  Goes : (place : ℕ) (locals stack : List Value) (heap : Objects) → Effect
  -- a new object, whose name goes on top of the stack
  Makes : (object : Object) (place : ℕ) (locals stack : List Value) (heap : Objects) → Effect
  -- a new mailbox, whose name goes on top of the stack
  Opens : (place : ℕ) (locals stack : List Value) (heap : Objects) → Effect
  -- a call of a method with code; the receiver is the first argument
  Calls : (method : MethodId) (args : List Value) (place : ℕ) (locals stack : List Value) (heap : Objects) → Effect
  -- a call of a built-in method that is handed out; the receiver is the first argument, and isn't null; the result
  -- goes on top of the stack
  Asks : (method : MethodId) (args : List Value) (place : ℕ) (locals stack : List Value) (heap : Objects) → Effect
  Returns : (value : Option Value) (heap : Objects) → Effect
  -- Something is wrong with a value: null, index, size, cast, store or zero. What then becomes of the task is told in one
  -- place, above the frames.
  Raises : (cause : EndCause) → Effect
  -- An object of that class is thrown. Where nothing catches it, the task ends with the cause.
  Throws : (object : ℕ) (class : ClassId) (cause : EndCause) → Effect
  -- the task ends
  Ends : (cause : EndCause) → Effect
  -- what no verified code does
  Stuck : Effect

abbrev pub with_some : {A : Type 0} → Option A → (A → Effect) → Effect
with_some None go = Stuck
with_some (Some x) go = go x

-- the top of the stack
abbrev pub on_value : List Value → (Value → List Value → Effect) → Effect
on_value [] go = Stuck
on_value (v ∷ rest) go = go v rest

-- so many values from the top, the topmost first
abbrev pub on_values : ℕ → List Value → (List Value → List Value → Effect) → Effect
on_values zero stack go = go [] stack
on_values (suc n) stack go = on_value stack (λ v rest. on_values n rest (λ vs below. go (v ∷ vs) below))

-- a reference
abbrev pub as_reference : Value → (Value → Effect) → Effect
as_reference (Int x) go = Stuck
as_reference (Long x) go = Stuck
as_reference Null go = go Null
as_reference (Ref n) go = go (Ref n)
as_reference (Text units) go = go (Text units)
as_reference (Box box) go = go (Box box)
as_reference Fiber go = go Fiber

-- a receiver, which isn't null
abbrev pub as_receiver : Value → (Value → Effect) → Effect
as_receiver (Int x) go = Stuck
as_receiver (Long x) go = Stuck
as_receiver Null go = Raises cause.Null
as_receiver (Ref n) go = go (Ref n)
as_receiver (Text units) go = go (Text units)
as_receiver (Box box) go = go (Box box)
as_receiver Fiber go = go Fiber

abbrev pub on_receiver : List Value → (Value → List Value → Effect) → Effect
on_receiver stack go = on_value stack (λ v rest. as_receiver v (λ receiver. go receiver rest))

-- ---- numbers

abbrev pub as_int : Value → (ℤ → Effect) → Effect
as_int (Int x) go = go x
as_int (Long x) go = Stuck
as_int Null go = Stuck
as_int (Ref n) go = Stuck
as_int (Text units) go = Stuck
as_int (Box box) go = Stuck
as_int Fiber go = Stuck

abbrev pub as_long : Value → (ℤ → Effect) → Effect
as_long (Int x) go = Stuck
as_long (Long x) go = go x
as_long Null go = Stuck
as_long (Ref n) go = Stuck
as_long (Text units) go = Stuck
as_long (Box box) go = Stuck
as_long Fiber go = Stuck

abbrev pub on_int : List Value → (ℤ → List Value → Effect) → Effect
on_int stack go = on_value stack (λ v rest. as_int v (λ x. go x rest))

abbrev pub on_two_ints : List Value → (ℤ → ℤ → List Value → Effect) → Effect
on_two_ints stack go = on_int stack (λ b below. on_int below (λ a rest. go a b rest))

abbrev pub on_long : List Value → (ℤ → List Value → Effect) → Effect
on_long stack go = on_value stack (λ v rest. as_long v (λ x. go x rest))

abbrev pub on_two_longs : List Value → (ℤ → ℤ → List Value → Effect) → Effect
on_two_longs stack go = on_long stack (λ b below. on_long below (λ a rest. go a b rest))

-- ---- words of the stack: a long is two

abbrev pub is_wide : Value → Bool
is_wide (Long x) = true
is_wide v = false

abbrev pub when : Bool → Effect → Effect
when true effect = effect
when false effect = Stuck

abbrev pub on_word : List Value → (Value → List Value → Effect) → Effect
on_word stack go = on_value stack (λ v rest. when (not (is_wide v)) (go v rest))

abbrev pub wide_or : Bool → Effect → Effect → Effect
wide_or true wide narrow = wide
wide_or false wide narrow = narrow

-- a long, or two other values, the topmost first
abbrev pub on_two_words : List Value → (List Value → List Value → Effect) → Effect
on_two_words stack go = on_value stack (λ v rest. wide_or (is_wide v) (go (v ∷ []) rest) (on_word rest (λ w below. go (v ∷ w ∷ []) below)))

-- ---- objects

abbrev pub on_reference : List Value → (Value → List Value → Effect) → Effect
on_reference stack go = on_value stack (λ v rest. as_reference v (λ r. go r rest))

-- the object that a reference names, which isn't null
abbrev pub as_object : Value → Objects → (ℕ → Object → Effect) → Effect
as_object (Int x) heap go = Stuck
as_object (Long x) heap go = Stuck
as_object Null heap go = Raises cause.Null
as_object (Ref n) heap go = with_some (get heap n) (λ object. go n object)
as_object (Text units) heap go = Stuck
as_object (Box box) heap go = Stuck
as_object Fiber heap go = Stuck

abbrev pub on_object : List Value → Objects → (ℕ → Object → List Value → Effect) → Effect
on_object stack heap go = on_value stack (λ v rest. as_object v heap (λ n object. go n object rest))

-- what a reference is: null, or of a class or an array type
abbrev pub as_class : Program → Value → Objects → (Option Ty → Effect) → Effect
as_class p (Int x) heap go = Stuck
as_class p (Long x) heap go = Stuck
as_class p Null heap go = go None
as_class p (Ref n) heap go = with_some (get heap n) (λ object. go (Some object.class))
as_class p (Text units) heap go = go (named_type p (codes "java/lang/String"))
as_class p (Box box) heap go = go (named_type p (codes "kilim/Mailbox"))
as_class p Fiber heap go = go (named_type p (codes "kilim/Fiber"))

-- an index of an array
abbrev pub at_place : Option Value → (Value → Effect) → Effect
at_place None go = Raises cause.Index
at_place (Some v) go = go v

abbrev pub at_index : List Value → ℤ → (ℕ → Value → Effect) → Effect
at_index elements (negsuc i) go = Raises cause.Index
at_index elements (pos i) go = at_place (slice_get elements i) (go i)

-- ---- constants and strings

-- A constant is a number or a string. (A name would be one from nowhere.)
abbrev pub on_constant : Value → (Value → Effect) → Effect
on_constant (Int x) go = go (Int x)
on_constant (Long x) go = go (Long x)
on_constant (Text units) go = go (Text units)
on_constant v go = Stuck

-- the units of a string
abbrev pub text_of : Value → Option (List ℕ)
text_of (Text units) = Some units
text_of v = None
