-- What each instruction does (JVMS 6.5, in this project's profile).
--
--     does program method instruction next locals stack heap
--
-- The method is the one in which the instruction stands, `next` is the place behind the instruction, and the stack is
-- seen top first. There is a row for each instruction. Where several things may be wrong, the row asks in the order null,
-- index, store, and size before large.
use Rattle.std.specs.Prelude.{ℕ, zero, suc, ◌-◌, ◌%◌, ◌/◌, ◌^◌, ◌==◌, ◌-ℤ◌, ℤ, pos, negsuc, Bool, true, false, ◌&&◌, ◌||◌, not, if◌then◌else◌, List, [], ◌∷◌, ◌++◌, Option, Some, None, length, reverse, slice_get, slice_set, int_rem, int_lt, codes, nat_lt}
use Rattle.std.specs.Int.{w8, w16, w32, w64, int_wrapping_add, int_wrapping_sub, int_wrapping_mul, int_wrapping_div, int_wrapping_neg, int_bit_and, int_bit_or, int_bit_xor, int_shl, int_shr, cast_signed, cast_unsigned}
use Rattle.std.specs.Ordering.{int_eq}
use Rattle.std.specs.Str.{bytes_eq}
use Rattle.std.specs.FinMap.{insert}
use Rattle.kilim_program.specs.declared.class.Class.{Class}
use Rattle.kilim_program.specs.declared.class.Method.{Method}
use Rattle.kilim_program.specs.Program.{Program}
use Rattle.kilim_program.specs.declared.instr.Instr.{Instr}
use Rattle.kilim_program.specs.declared.instr.Instr.TheVariants.{Nop, AconstNull, Iconst, Lconst, Bipush, Sipush, Ldc, LdcW, Ldc2W, Iload, Lload, Aload, Iaload, Laload, Aaload, Baload, Caload, Saload, Istore, Lstore, Astore, Iastore, Lastore, Aastore, Bastore, Castore, Sastore, Pop, Pop2, Dup, DupX1, DupX2, Dup2, Dup2X1, Dup2X2, Swap, Iadd, Ladd, Isub, Lsub, Imul, Lmul, Idiv, Ldiv, Irem, Lrem, Ineg, Lneg, Ishl, Lshl, Ishr, Lshr, Iushr, Lushr, Iand, Land, Ior, Lor, Ixor, Lxor, Iinc, I2l, L2i, I2b, I2c, I2s, Lcmp, Ifeq, Ifne, Iflt, Ifge, Ifgt, Ifle, IfIcmpeq, IfIcmpne, IfIcmplt, IfIcmpge, IfIcmpgt, IfIcmple, IfAcmpeq, IfAcmpne, Goto, Tableswitch, Lookupswitch, Ireturn, Lreturn, Areturn, Return, Getstatic, Getfield, Putfield, Invokevirtual, Invokespecial, Invokestatic, New, Newarray, Anewarray, Arraylength, Checkcast, Instanceof, Ifnull, Ifnonnull, GotoW, Athrow}
use Rattle.kilim_program.specs.declared.names.ClassId.{ClassId}
use Rattle.kilim_program.specs.declared.names.FieldId.{FieldId}
use Rattle.kilim_program.specs.declared.names.MethodId.{MethodId}
use Rattle.kilim_program.specs.declared.ty.Base.{Base}
use Rattle.kilim_program.specs.declared.ty.Base.TheVariants as base
use Rattle.kilim_program.specs.declared.ty.Ty.{Ty}
use Rattle.kilim_program.specs.declared.value.Value.{Value}
use Rattle.kilim_program.specs.declared.value.Value.TheVariants.{Int, Long, Null, Ref, Text, Box, Fiber}
use Rattle.kilim_program.specs.BuiltIn.{message_field}
use Rattle.kilim_program.specs.Names.{class_at, class_name, field_of, method_at}
use Rattle.kilim_program.specs.Same.{is_constructor, selected}
use Rattle.kilim_program.specs.Fits.{fits_type}
use Rattle.kilim_run_state.specs.declared.cause.EndCause.TheVariants as cause
use Rattle.kilim_run_state.specs.declared.value.Object.{Object}
use Rattle.kilim_run_state.specs.Machine.{Objects}
use Rattle.kilim_run_machine.specs.Raising.{thrown_cause}
use Rattle.kilim_run_machine.specs.Natives.{is_built_in_constructor, is_get_message, is_handed_out, is_message_constructor, is_text_method}
use Rattle.kilim_run_state.specs.Objects.{first_value_of, new_array, new_object}
use Rattle.kilim_run_state.specs.Shapes.{field_in}
use Rattle.kilim_run_machine.specs.Effect.{Effect, Goes, Makes, Opens, Calls, Asks, Returns, Raises, Throws, Ends, Stuck, with_some, on_value, on_values, on_receiver, as_reference, as_receiver, as_int, as_long, on_int, on_two_ints, on_long, on_two_longs, on_word, on_two_words, on_reference, as_object, on_object, as_class, at_index, when, on_constant, text_of}

-- ---- numbers: ints have 32 bits and longs 64, and what passes these wraps (JVMS 2.11.3)

abbrev pub int_binary : (ℤ → ℤ → ℤ) → ℕ → List Value → List Value → Objects → Effect
int_binary f next locals stack heap = on_two_ints stack (λ a b rest. Goes next locals (Int (f a b) ∷ rest) heap)

abbrev pub int_division : (ℤ → ℤ → ℤ) → ℕ → List Value → List Value → Objects → Effect
int_division f next locals stack heap = on_two_ints stack (λ a b rest. if int_eq b (pos 0) then Raises cause.Zero else Goes next locals (Int (f a b) ∷ rest) heap)

abbrev pub int_unary : (ℤ → ℤ) → ℕ → List Value → List Value → Objects → Effect
int_unary f next locals stack heap = on_int stack (λ a rest. Goes next locals (Int (f a) ∷ rest) heap)

abbrev pub long_binary : (ℤ → ℤ → ℤ) → ℕ → List Value → List Value → Objects → Effect
long_binary f next locals stack heap = on_two_longs stack (λ a b rest. Goes next locals (Long (f a b) ∷ rest) heap)

abbrev pub long_division : (ℤ → ℤ → ℤ) → ℕ → List Value → List Value → Objects → Effect
long_division f next locals stack heap = on_two_longs stack (λ a b rest. if int_eq b (pos 0) then Raises cause.Zero else Goes next locals (Long (f a b) ∷ rest) heap)

-- a long below an int, which is the topmost
abbrev pub long_shift : (ℤ → ℤ → ℤ) → ℕ → List Value → List Value → Objects → Effect
long_shift f next locals stack heap = on_int stack (λ b below. on_long below (λ a rest. Goes next locals (Long (f a b) ∷ rest) heap))

-- A shift of an int by the low 5 bits of a distance: to the left, to the right with the sign, and to the right with zeros.
abbrev pub shifted_left : ℤ → ℤ → ℤ
shifted_left a b = int_shl w32 a (cast_unsigned w32 b % 32)

abbrev pub shifted_right : ℤ → ℤ → ℤ
shifted_right a b = int_shr a (cast_unsigned w32 b % 32)

abbrev pub shifted_down : ℤ → ℤ → ℤ
shifted_down a b = cast_signed w32 (cast_unsigned w32 a / 2 ^ (cast_unsigned w32 b % 32))

-- those of a long, by the low 6 bits
abbrev pub long_left : ℤ → ℤ → ℤ
long_left a b = int_shl w64 a (cast_unsigned w32 b % 64)

abbrev pub long_right : ℤ → ℤ → ℤ
long_right a b = int_shr a (cast_unsigned w32 b % 64)

abbrev pub long_down : ℤ → ℤ → ℤ
long_down a b = cast_signed w64 (cast_unsigned w64 a / 2 ^ (cast_unsigned w32 b % 64))

-- the low 8 or 16 bits with their sign, the low 16 bits, and the low 32 bits of a long with their sign
abbrev pub to_byte : ℤ → ℤ
to_byte x = cast_signed w8 (cast_unsigned w32 x % 2 ^ 8)

abbrev pub to_short : ℤ → ℤ
to_short x = cast_signed w16 (cast_unsigned w32 x % 2 ^ 16)

abbrev pub to_char : ℤ → ℤ
to_char x = pos (cast_unsigned w32 x % 2 ^ 16)

abbrev pub to_int : ℤ → ℤ
to_int x = cast_signed w32 (cast_unsigned w64 x % 2 ^ 32)

-- a length as an int
abbrev pub int_length : ℕ → ℤ
int_length n = cast_signed w32 (n % 2 ^ 32)

-- -1, 0 or 1
abbrev pub compared : ℤ → ℤ → ℤ
compared a b = if int_lt a b then negsuc 0 else (if int_eq a b then pos 0 else pos 1)

abbrev pub bit : Bool → ℤ
bit true = pos 1
bit false = pos 0

-- narrowed to a type: boolean to its low bit, byte, char and short to their bits
abbrev pub narrowed_int : Base → ℤ → ℤ
narrowed_int base.Bool x = pos (cast_unsigned w32 x % 2)
narrowed_int base.Byte x = to_byte x
narrowed_int base.Char x = to_char x
narrowed_int base.Short x = to_short x
narrowed_int b x = x

abbrev pub narrowed_to : Ty → Value → Value
narrowed_to ty (Int x) = Int (if ty.dims == 0 then narrowed_int ty.base x else x)
narrowed_to ty v = v

abbrev pub narrowed_result : Option Ty → Value → Value
narrowed_result None v = v
narrowed_result (Some ty) v = narrowed_to ty v

-- ---- jumps

abbrev pub place_if : Bool → ℕ → ℕ → ℕ
place_if b to next = if b then to else next

abbrev pub int_jump : (ℤ → Bool) → ℕ → ℕ → List Value → List Value → Objects → Effect
int_jump test to next locals stack heap = on_int stack (λ a rest. Goes (place_if (test a) to next) locals rest heap)

abbrev pub compare_jump : (ℤ → ℤ → Bool) → ℕ → ℕ → List Value → List Value → Objects → Effect
compare_jump test to next locals stack heap = on_two_ints stack (λ a b rest. Goes (place_if (test a b) to next) locals rest heap)

-- two strings by content, two mailboxes by name, two objects by identity
abbrev pub same_reference : Value → Value → Bool
same_reference Null Null = true
same_reference (Ref n) (Ref m) = n == m
same_reference (Text a) (Text b) = bytes_eq a b
same_reference (Box a) (Box b) = a.task == b.task && a.number == b.number
same_reference Fiber Fiber = true
same_reference v w = false

abbrev pub reference_jump : (Bool → Bool) → ℕ → ℕ → List Value → List Value → Objects → Effect
reference_jump test to next locals stack heap = on_reference stack (λ w below. on_reference below (λ v rest. Goes (place_if (test (same_reference v w)) to next) locals rest heap))

abbrev pub is_null : Value → Bool
is_null Null = true
is_null v = false

abbrev pub null_jump : (Bool → Bool) → ℕ → ℕ → List Value → List Value → Objects → Effect
null_jump test to next locals stack heap = on_reference stack (λ v rest. Goes (place_if (test (is_null v)) to next) locals rest heap)

abbrev pub target_or : Option ℕ → ℕ → ℕ
target_or None default = default
target_or (Some to) default = to

-- the target of an index, or the default where there is none
abbrev pub table_target : List ℕ → ℤ → ℕ → ℕ
table_target targets (pos i) default = target_or (slice_get targets i) default
table_target targets (negsuc i) default = default

-- the target of a match, or the default
abbrev pub match_target : List (ℤ × ℕ) → ℤ → ℕ → ℕ
match_target [] a default = default
match_target (entry ∷ entries) a default = if int_eq entry.0 a then entry.1 else match_target entries a default

-- ---- fields and elements

-- another value in the first entry of that field
abbrev pub with_field : List (FieldId × Value) → FieldId → Value → List (FieldId × Value)
with_field [] f v = []
with_field (entry ∷ entries) f v = if entry.0.0 == f.0 then (entry.0, v) ∷ entries else entry ∷ with_field entries f v

abbrev pub element_type : Ty → Ty
element_type ty = record ty { dims = ty.dims - 1 }

abbrev pub with_element : Object → ℕ → Value → Object
with_element object k v = record object { elements = slice_set object.elements k v }

abbrev pub loads_int : ℕ → List Value → List Value → Objects → Effect
loads_int next locals stack heap = on_int stack (λ i below. on_object below heap (λ n object rest. at_index object.elements i (λ k v. as_int v (λ x. Goes next locals (Int x ∷ rest) heap))))

-- narrowed to the type of the elements
abbrev pub stores_int : ℕ → List Value → List Value → Objects → Effect
stores_int next locals stack heap =
    on_int stack (λ x above. on_int above (λ i below. on_object below heap (λ n object rest.
    at_index object.elements i (λ k old. Goes next locals rest (insert heap n (with_element object k (Int (narrowed_int object.class.base x))))))))

-- ---- classes

-- An object or an array is an instance of a type that its own fits. Null is an instance of none, and may be cast to each.
abbrev pub is_instance : Program → Option Ty → Ty → Bool
is_instance p None to = false
is_instance p (Some ty) to = fits_type p ty to

abbrev pub cast_fits : Program → Option Ty → Ty → Bool
cast_fits p None to = true
cast_fits p (Some ty) to = fits_type p ty to

-- ---- what is new

unfoldable pub array_limit : ℕ
array_limit = 1048576

abbrev pub makes_array : Ty → Value → ℤ → ℕ → List Value → List Value → Objects → Effect
makes_array ty v (negsuc n) next locals rest heap = Raises cause.Size
makes_array ty v (pos n) next locals rest heap = if nat_lt array_limit n then Ends cause.Large else Makes (new_array ty v n) next locals rest heap

abbrev pub array_of : Ty → Ty
array_of ty = record ty { dims = suc ty.dims }

abbrev pub is_mailbox : Program → ClassId → Bool
is_mailbox p c = bytes_eq (class_name p c) (codes "kilim/Mailbox")

-- ---- calls

abbrev pub chosen_by : Option MethodId → MethodId → MethodId
chosen_by None m = m
chosen_by (Some found) m = found

-- an array has the methods of `java/lang/Object` alone
abbrev pub chosen_on : Program → Method → MethodId → ℕ → Base → MethodId
chosen_on p named m zero (base.Class c) = chosen_by (selected p c named) m
chosen_on p named m dims b = m

-- The method that a call on an object selects: a private one itself, else by the object's class.
abbrev pub chosen : Program → Method → MethodId → Ty → MethodId
chosen p named m ty = if named.is_private then m else chosen_on p named m ty.dims ty.base

-- The constructor of an exception keeps the message, which is its second argument.
abbrev pub keeps_message : List Value → ℕ → List Value → List Value → Objects → Effect
keeps_message (receiver ∷ message ∷ []) next locals rest heap =
    as_object receiver heap (λ n object. with_some (field_in object.fields message_field) (λ old.
    Goes next locals rest (insert heap n (record object { fields = with_field object.fields message_field message }))))
keeps_message args next locals rest heap = Stuck

-- `getMessage` gives it.
abbrev pub gives_message : List Value → ℕ → List Value → List Value → Objects → Effect
gives_message (receiver ∷ []) next locals rest heap = as_object receiver heap (λ n object. with_some (field_in object.fields message_field) (λ v. Goes next locals (v ∷ rest) heap))
gives_message args next locals rest heap = Stuck

-- a built-in method that has a receiver
abbrev pub calls_built_in : Method → MethodId → List Value → ℕ → List Value → List Value → Objects → Effect
calls_built_in method m args next locals rest heap =
    if is_message_constructor method then keeps_message args next locals rest heap
    else (if is_get_message method then gives_message args next locals rest heap else Asks m args next locals rest heap)

-- a method with code gets a frame, a built-in one none
abbrev pub calls_method : Option Method → MethodId → List Value → ℕ → List Value → List Value → Objects → Effect
calls_method None m args next locals rest heap = Stuck
calls_method (Some method) m args next locals rest heap = if method.built_in then calls_built_in method m args next locals rest heap else Calls m args next locals rest heap

-- a call on a reference of that class, or on null
abbrev pub calls_on : Program → Method → MethodId → List Value → ℕ → List Value → List Value → Objects → Value → Option Ty → Effect
calls_on p named m args next locals rest heap receiver None = Raises cause.Null
calls_on p named m args next locals rest heap receiver (Some ty) =
    calls_method (method_at p (chosen p named m ty)) (chosen p named m ty) (receiver ∷ args) next locals rest heap

abbrev pub superclass_of : Option Class → Option ClassId
superclass_of None = None
superclass_of (Some class) = class.superclass

abbrev pub above_of : Program → Method → MethodId → Option ClassId → MethodId
above_of p named m None = m
above_of p named m (Some up) = chosen_by (selected p up named) m

-- The method that `invokespecial` in a class calls: the named constructor, a method of the class itself, or the one
-- that is selected from the direct superclass up.
abbrev pub special : Program → Method → Method → MethodId → MethodId
special p own named m = if is_constructor named || named.owner.0 == own.owner.0 then m else above_of p named m (superclass_of (class_at p own.owner))

-- ---- strings, and `kilim/Sys.take`

abbrev pub at_unit : Option ℕ → (Value → Effect) → Effect
at_unit None go = Raises cause.Index
at_unit (Some unit) go = go (Int (pos unit))

abbrev pub unit_at : List ℕ → ℤ → (Value → Effect) → Effect
unit_at units (negsuc i) go = Raises cause.Index
unit_at units (pos i) go = at_unit (slice_get units i) go

abbrev pub is_text : List ℕ → Option (List ℕ) → Bool
is_text units None = false
is_text units (Some other) = bytes_eq units other

-- `length()I`, `equals(Ljava/lang/Object;)Z` and `charAt(I)C`
abbrev pub text_answers : List ℕ → List ℕ → List Value → (Value → Effect) → Effect
text_answers name units [] go = when (bytes_eq name (codes "length")) (go (Int (int_length (length units))))
text_answers name units (v ∷ []) go =
    if bytes_eq name (codes "equals") then go (Int (bit (is_text units (text_of v)))) else when (bytes_eq name (codes "charAt")) (as_int v (λ i. unit_at units i go))
text_answers name units (v ∷ w ∷ vs) go = Stuck

abbrev pub calls_text : Method → List Value → ℕ → List Value → List Value → Objects → Value → Effect
calls_text named args next locals rest heap receiver =
    as_receiver receiver (λ r. with_some (text_of r) (λ units. text_answers named.name units args (λ v. Goes next locals (v ∷ rest) heap)))

-- the element of an array, which is null from then on
abbrev pub takes_element : ℕ → List Value → List Value → Objects → Effect
takes_element next locals stack heap =
    on_int stack (λ i below. on_object below heap (λ n object rest. at_index object.elements i (λ k v.
    Goes next locals (v ∷ rest) (insert heap n (with_element object k Null)))))

-- verified code throws no array
abbrev pub throws_object : Program → ℕ → ℕ → Base → Effect
throws_object p n zero (base.Class c) = Throws n c (thrown_cause p c)
throws_object p n dims b = Stuck

-- ---- the table

unfoldable pub does : Program → Method → Instr → ℕ → List Value → List Value → Objects → Effect
does p own Nop next locals stack heap = Goes next locals stack heap
does p own AconstNull next locals stack heap = Goes next locals (Null ∷ stack) heap
does p own (Iconst n) next locals stack heap = Goes next locals (Int n ∷ stack) heap
does p own (Lconst n) next locals stack heap = Goes next locals (Long n ∷ stack) heap
does p own (Bipush n) next locals stack heap = Goes next locals (Int n ∷ stack) heap
does p own (Sipush n) next locals stack heap = Goes next locals (Int n ∷ stack) heap
does p own (Ldc v) next locals stack heap = on_constant v (λ c. Goes next locals (c ∷ stack) heap)
does p own (LdcW v) next locals stack heap = on_constant v (λ c. Goes next locals (c ∷ stack) heap)
does p own (Ldc2W v) next locals stack heap = on_constant v (λ c. Goes next locals (c ∷ stack) heap)
-- locals
does p own (Iload n) next locals stack heap = with_some (slice_get locals n) (λ v. as_int v (λ x. Goes next locals (Int x ∷ stack) heap))
does p own (Lload n) next locals stack heap = with_some (slice_get locals n) (λ v. as_long v (λ x. Goes next locals (Long x ∷ stack) heap))
does p own (Aload n) next locals stack heap = with_some (slice_get locals n) (λ v. as_reference v (λ reference. Goes next locals (reference ∷ stack) heap))
does p own (Istore n) next locals stack heap = on_int stack (λ x rest. with_some (slice_get locals n) (λ _. Goes next (slice_set locals n (Int x)) rest heap))
does p own (Lstore n) next locals stack heap = on_long stack (λ x rest. with_some (slice_get locals n) (λ _. Goes next (slice_set locals n (Long x)) rest heap))
does p own (Astore n) next locals stack heap = on_reference stack (λ v rest. with_some (slice_get locals n) (λ _. Goes next (slice_set locals n v) rest heap))
does p own (Iinc n k) next locals stack heap = with_some (slice_get locals n) (λ v. as_int v (λ x. Goes next (slice_set locals n (Int (int_wrapping_add w32 x k))) stack heap))
-- elements of arrays
does p own Iaload next locals stack heap = loads_int next locals stack heap
does p own Laload next locals stack heap = on_int stack (λ i below. on_object below heap (λ n object rest. at_index object.elements i (λ k v. as_long v (λ x. Goes next locals (Long x ∷ rest) heap))))
does p own Aaload next locals stack heap = on_int stack (λ i below. on_object below heap (λ n object rest. at_index object.elements i (λ k v. Goes next locals (v ∷ rest) heap)))
does p own Baload next locals stack heap = loads_int next locals stack heap
does p own Caload next locals stack heap = loads_int next locals stack heap
does p own Saload next locals stack heap = loads_int next locals stack heap
does p own Iastore next locals stack heap =
    on_int stack (λ x above. on_int above (λ i below. on_object below heap (λ n object rest.
    at_index object.elements i (λ k old. Goes next locals rest (insert heap n (with_element object k (Int x)))))))
does p own Lastore next locals stack heap =
    on_long stack (λ x above. on_int above (λ i below. on_object below heap (λ n object rest.
    at_index object.elements i (λ k old. Goes next locals rest (insert heap n (with_element object k (Long x)))))))
does p own Aastore next locals stack heap =
    on_value stack (λ v above. on_int above (λ i below. on_object below heap (λ n object rest.
    at_index object.elements i (λ k old. as_class p v heap (λ class.
    if cast_fits p class (element_type object.class) then Goes next locals rest (insert heap n (with_element object k v)) else Raises cause.Store)))))
does p own Bastore next locals stack heap = stores_int next locals stack heap
does p own Castore next locals stack heap = stores_int next locals stack heap
does p own Sastore next locals stack heap = stores_int next locals stack heap
-- words of the stack
does p own Pop next locals stack heap = on_word stack (λ v rest. Goes next locals rest heap)
does p own Pop2 next locals stack heap = on_two_words stack (λ vs rest. Goes next locals rest heap)
does p own Dup next locals stack heap = on_word stack (λ v rest. Goes next locals (v ∷ v ∷ rest) heap)
does p own DupX1 next locals stack heap = on_word stack (λ v below. on_word below (λ w rest. Goes next locals (v ∷ w ∷ v ∷ rest) heap))
does p own DupX2 next locals stack heap = on_word stack (λ v below. on_two_words below (λ ws rest. Goes next locals (v ∷ (ws ++ v ∷ rest)) heap))
does p own Dup2 next locals stack heap = on_two_words stack (λ vs rest. Goes next locals (vs ++ (vs ++ rest)) heap)
does p own Dup2X1 next locals stack heap = on_two_words stack (λ vs below. on_word below (λ w rest. Goes next locals (vs ++ w ∷ (vs ++ rest)) heap))
does p own Dup2X2 next locals stack heap = on_two_words stack (λ vs below. on_two_words below (λ ws rest. Goes next locals (vs ++ (ws ++ (vs ++ rest))) heap))
does p own Swap next locals stack heap = on_word stack (λ v below. on_word below (λ w rest. Goes next locals (w ∷ v ∷ rest) heap))
-- numbers
does p own Iadd next locals stack heap = int_binary (int_wrapping_add w32) next locals stack heap
does p own Ladd next locals stack heap = long_binary (int_wrapping_add w64) next locals stack heap
does p own Isub next locals stack heap = int_binary (int_wrapping_sub w32) next locals stack heap
does p own Lsub next locals stack heap = long_binary (int_wrapping_sub w64) next locals stack heap
does p own Imul next locals stack heap = int_binary (int_wrapping_mul w32) next locals stack heap
does p own Lmul next locals stack heap = long_binary (int_wrapping_mul w64) next locals stack heap
does p own Idiv next locals stack heap = int_division (int_wrapping_div w32) next locals stack heap
does p own Ldiv next locals stack heap = long_division (int_wrapping_div w64) next locals stack heap
does p own Irem next locals stack heap = int_division int_rem next locals stack heap
does p own Lrem next locals stack heap = long_division int_rem next locals stack heap
does p own Ineg next locals stack heap = int_unary (int_wrapping_neg w32) next locals stack heap
does p own Lneg next locals stack heap = on_long stack (λ a rest. Goes next locals (Long (int_wrapping_neg w64 a) ∷ rest) heap)
does p own Ishl next locals stack heap = int_binary shifted_left next locals stack heap
does p own Lshl next locals stack heap = long_shift long_left next locals stack heap
does p own Ishr next locals stack heap = int_binary shifted_right next locals stack heap
does p own Lshr next locals stack heap = long_shift long_right next locals stack heap
does p own Iushr next locals stack heap = int_binary shifted_down next locals stack heap
does p own Lushr next locals stack heap = long_shift long_down next locals stack heap
does p own Iand next locals stack heap = int_binary (int_bit_and w32) next locals stack heap
does p own Land next locals stack heap = long_binary (int_bit_and w64) next locals stack heap
does p own Ior next locals stack heap = int_binary (int_bit_or w32) next locals stack heap
does p own Lor next locals stack heap = long_binary (int_bit_or w64) next locals stack heap
does p own Ixor next locals stack heap = int_binary (int_bit_xor w32) next locals stack heap
does p own Lxor next locals stack heap = long_binary (int_bit_xor w64) next locals stack heap
does p own I2l next locals stack heap = on_int stack (λ a rest. Goes next locals (Long a ∷ rest) heap)
does p own L2i next locals stack heap = on_long stack (λ a rest. Goes next locals (Int (to_int a) ∷ rest) heap)
does p own I2b next locals stack heap = int_unary to_byte next locals stack heap
does p own I2c next locals stack heap = int_unary to_char next locals stack heap
does p own I2s next locals stack heap = int_unary to_short next locals stack heap
does p own Lcmp next locals stack heap = on_two_longs stack (λ a b rest. Goes next locals (Int (compared a b) ∷ rest) heap)
-- jumps and returns
does p own (Ifeq to) next locals stack heap = int_jump (λ a. int_eq a (pos 0)) to next locals stack heap
does p own (Ifne to) next locals stack heap = int_jump (λ a. not (int_eq a (pos 0))) to next locals stack heap
does p own (Iflt to) next locals stack heap = int_jump (λ a. int_lt a (pos 0)) to next locals stack heap
does p own (Ifge to) next locals stack heap = int_jump (λ a. not (int_lt a (pos 0))) to next locals stack heap
does p own (Ifgt to) next locals stack heap = int_jump (λ a. int_lt (pos 0) a) to next locals stack heap
does p own (Ifle to) next locals stack heap = int_jump (λ a. not (int_lt (pos 0) a)) to next locals stack heap
does p own (IfIcmpeq to) next locals stack heap = compare_jump int_eq to next locals stack heap
does p own (IfIcmpne to) next locals stack heap = compare_jump (λ a b. not (int_eq a b)) to next locals stack heap
does p own (IfIcmplt to) next locals stack heap = compare_jump int_lt to next locals stack heap
does p own (IfIcmpge to) next locals stack heap = compare_jump (λ a b. not (int_lt a b)) to next locals stack heap
does p own (IfIcmpgt to) next locals stack heap = compare_jump (λ a b. int_lt b a) to next locals stack heap
does p own (IfIcmple to) next locals stack heap = compare_jump (λ a b. not (int_lt b a)) to next locals stack heap
does p own (IfAcmpeq to) next locals stack heap = reference_jump (λ same. same) to next locals stack heap
does p own (IfAcmpne to) next locals stack heap = reference_jump not to next locals stack heap
does p own (Ifnull to) next locals stack heap = null_jump (λ null. null) to next locals stack heap
does p own (Ifnonnull to) next locals stack heap = null_jump not to next locals stack heap
does p own (Goto to) next locals stack heap = Goes to locals stack heap
does p own (GotoW to) next locals stack heap = Goes to locals stack heap
does p own (Tableswitch default low targets) next locals stack heap = on_int stack (λ a rest. Goes (table_target targets (a -ℤ low) default) locals rest heap)
does p own (Lookupswitch default entries) next locals stack heap = on_int stack (λ a rest. Goes (match_target entries a default) locals rest heap)
does p own Ireturn next locals stack heap = on_int stack (λ x rest. Returns (Some (narrowed_result own.result (Int x))) heap)
does p own Lreturn next locals stack heap = on_long stack (λ x rest. Returns (Some (Long x)) heap)
does p own Areturn next locals stack heap = on_reference stack (λ v rest. Returns (Some v) heap)
does p own Return next locals stack heap = Returns None heap
-- fields: an object that hasn't the field is stuck
does p own (Getstatic f) next locals stack heap = with_some (field_of p f) (λ field. with_some field.constant (λ v. on_constant v (λ c. Goes next locals (c ∷ stack) heap)))
does p own (Getfield f) next locals stack heap = on_object stack heap (λ n object rest. with_some (field_in object.fields f) (λ v. Goes next locals (v ∷ rest) heap))
does p own (Putfield f) next locals stack heap =
    on_value stack (λ v below. on_object below heap (λ n object rest.
    with_some (field_of p f) (λ field. with_some (field_in object.fields f) (λ old.
    Goes next locals rest (insert heap n (record object { fields = with_field object.fields f (narrowed_to field.ty v) }))))))
-- calls: the arguments are taken off, the last one first, and then the receiver
does p own (Invokevirtual m) next locals stack heap =
    with_some (method_at p m) (λ method. on_values (length method.params) stack (λ args below. on_value below (λ receiver rest.
    if is_text_method p method then calls_text method (reverse args) next locals rest heap receiver
    else as_class p receiver heap (calls_on p method m (reverse args) next locals rest heap receiver))))
does p own (Invokespecial m) next locals stack heap =
    with_some (method_at p m) (λ method. if is_built_in_constructor method then on_receiver stack (λ receiver rest. Goes next locals rest heap) else
    on_values (length method.params) stack (λ args below. on_receiver below (λ receiver rest.
    calls_method (method_at p (special p own method m)) (special p own method m) (receiver ∷ reverse args) next locals rest heap)))
-- the static built-in method that isn't handed out is `kilim/Sys.take`
does p own (Invokestatic m) next locals stack heap =
    with_some (method_at p m) (λ method. if is_handed_out p method then on_values (length method.params) stack (λ args rest. Asks m (reverse args) next locals rest heap) else
    (if method.built_in then takes_element next locals stack heap else on_values (length method.params) stack (λ args rest. Calls m (reverse args) next locals rest heap)))
-- objects and arrays
does p own (New c) next locals stack heap = if is_mailbox p c then Opens next locals stack heap else Makes (new_object p c) next locals stack heap
does p own (Newarray b) next locals stack heap = on_int stack (λ n rest. makes_array (record { dims = 1; base = b }) (first_value_of b) n next locals rest heap)
does p own (Anewarray ty) next locals stack heap = on_int stack (λ n rest. makes_array (array_of ty) Null n next locals rest heap)
does p own Arraylength next locals stack heap = on_object stack heap (λ n object rest. Goes next locals (Int (int_length (length object.elements)) ∷ rest) heap)
does p own (Checkcast ty) next locals stack heap = on_value stack (λ v rest. as_class p v heap (λ class. if cast_fits p class ty then Goes next locals (v ∷ rest) heap else Raises cause.Cast))
does p own (Instanceof ty) next locals stack heap = on_value stack (λ v rest. as_class p v heap (λ class. Goes next locals (Int (bit (is_instance p class ty)) ∷ rest) heap))
-- an object of a class is thrown
does p own Athrow next locals stack heap = on_object stack heap (λ n object rest. throws_object p n object.class.dims object.class.base)
