-- What is found in a program made by hand: fields, `execute`, what is handed out, the call of a frame, what catches an exception;
-- each beside an answer that is wrong.
use Rattle.std.specs.Prelude.{◌≡◌, ℕ, pos, Bool, true, false, List, [], ◌∷◌, ◌++◌, Option, Some, None, map, is_some, codes}
use Rattle.std.specs.List.{list_all}
use Rattle.kilim_program.specs.declared.class.Class.{Class}
use Rattle.kilim_program.specs.declared.class.Field.{Field}
use Rattle.kilim_program.specs.declared.class.Form.{Form}
use Rattle.kilim_program.specs.declared.class.Handler.{Handler}
use Rattle.kilim_program.specs.declared.class.Form.TheVariants.{Plain, Woven}
use Rattle.kilim_program.specs.declared.class.Method.{Method}
use Rattle.kilim_program.specs.declared.instr.Instr.{Instr}
use Rattle.kilim_program.specs.declared.instr.Instr.TheVariants.{Nop, Return, Invokestatic}
use Rattle.kilim_program.specs.declared.names.ClassId.{ClassId}
use Rattle.kilim_program.specs.declared.names.FieldId.{FieldId}
use Rattle.kilim_program.specs.declared.ty.Base.TheVariants as base
use Rattle.kilim_program.specs.declared.ty.Ty.{Ty}
use Rattle.kilim_program.specs.declared.ty.Qualifier.TheVariants.{Cuttable, Safe}
use Rattle.kilim_program.specs.declared.value.Value.TheVariants.{Int, Long, Null, Ref}
use Rattle.kilim_program.specs.Program.{Program}
use Rattle.kilim_program.specs.BuiltIn.{class_id, field_id, method_id, plain_type, int_type, built_in_method, built_in_classes_in, built_in_fields, built_in_methods_in, class_type, get_message, message_constructor}
use Rattle.kilim_program.specs.Examples.{built_in_program}
use Rattle.kilim_program.specs.Same.{same_flag}
use Rattle.kilim_run_state.specs.declared.value.Object.{Object}
use Rattle.kilim_run_state.specs.declared.value.Token.TheVariants as token
use Rattle.kilim_run_state.specs.Machine.{Activation, stands_behind}
use Rattle.kilim_run_state.specs.declared.cause.EndCause.TheVariants as cause
use Rattle.kilim_program.specs.Members.{object_fields, execute_of}
use Rattle.kilim_run_state.specs.Objects.{new_object}
use Rattle.kilim_run_state.specs.Shapes.{value_tokens}
use Rattle.kilim_run_machine.specs.Natives.{is_built_in_constructor, is_handed_out, native_method}
use Rattle.kilim_run_machine.specs.Moves.{receiver_of}
use Rattle.kilim_run_machine.specs.Raising.{array_index, handler_of, raised_class, text_index, thrown, thrown_cause, unwound}

-- ---- the program

-- `A` has an int and a static int, its subclass `B` a long. The task `T` has an `execute`, its subclass `N` has none, and the
-- task `P` has a private one. The built-in classes stand behind them, from number 5 on, with their methods from 2 on.
abbrev pub field_of_class : ℕ → List ℕ → Ty → Bool → Field
field_of_class owner name ty is_static = record { name = name; ty = ty; owner = class_id owner; is_static = is_static; is_private = false; constant = None }

abbrev pub class_with : List ℕ → ℕ → List FieldId → List ℕ → Class
class_with name up fields methods =
    record { name = name; superclass = Some (class_id up); is_abstract = false; message = false; fields = fields; methods = map method_id methods }

abbrev pub own_execute : ℕ → Bool → Method
own_execute owner is_private = record (built_in_method (codes "execute") (class_id owner) [] None false true Cuttable []) { built_in = false; is_private = is_private }

abbrev pub by_hand : Program
by_hand = record {
  classes =
      class_with (codes "A") 5 (field_id 1 ∷ field_id 2 ∷ []) []
      ∷ class_with (codes "B") 0 (field_id 3 ∷ []) []
      ∷ class_with (codes "T") 9 [] (0 ∷ [])
      ∷ class_with (codes "N") 2 [] []
      ∷ class_with (codes "P") 9 [] (1 ∷ [])
      ∷ built_in_classes_in Plain 5 2;
  methods = own_execute 2 false ∷ own_execute 4 true ∷ built_in_methods_in Plain 5;
  fields = built_in_fields 5 ++ field_of_class 0 (codes "a") int_type false ∷ field_of_class 0 (codes "s") int_type true ∷ field_of_class 1 (codes "b") (plain_type base.Long) false ∷ [];
  form = Plain;
}

-- ---- fields: those of the superclass first, in an object and in its shape

abbrev pub Fields : Type 0
Fields =
    (object_fields by_hand (class_id 1) ≡ field_id 1 ∷ field_id 3 ∷ [])
    × (object_fields by_hand (class_id 1) ≡ field_id 3 ∷ field_id 1 ∷ [] → ⊥)
    × ((new_object by_hand (class_id 1)).fields ≡ (field_id 1, Int (pos 0)) ∷ (field_id 3, Long (pos 0)) ∷ [])
    × ((new_object by_hand (class_id 14)).fields ≡ (field_id 0, Null) ∷ [])

-- an object whose fields stand the other way round
abbrev pub turned : Object
turned = record { class = record { dims = 0; base = base.Class (class_id 1) }; fields = (field_id 3, Long (pos 8)) ∷ (field_id 1, Int (pos 7)) ∷ []; elements = [] }

abbrev pub Shape : Type 0
Shape = value_tokens by_hand (λ n. Some turned) 1 (Ref 0) ≡ Some (token.Open (codes "B") ∷ token.Int (pos 7) ∷ token.Long (pos 8) ∷ token.Close ∷ [])

-- ---- `execute`: the nearest one that isn't private

abbrev pub Executes : Type 0
Executes =
    (execute_of by_hand (class_id 2) ≡ Some (method_id 0))
    × (execute_of by_hand (class_id 3) ≡ Some (method_id 0))
    × (execute_of by_hand (class_id 4) ≡ Some (method_id 8))
    × (execute_of by_hand (class_id 4) ≡ Some (method_id 1) → ⊥)
    × (execute_of by_hand (class_id 9) ≡ Some (method_id 8))
    × (execute_of by_hand (class_id 0) ≡ None)

-- ---- built-in methods

-- In the order of the built-in methods: constructors, strings' methods, `take` and `getMessage` are the table's own.
abbrev pub handed_out : List Bool
handed_out =
    false ∷ false ∷ false ∷ false
    ∷ false ∷ true ∷ true
    ∷ false ∷ true ∷ true ∷ true ∷ true ∷ true
    ∷ true ∷ true ∷ true ∷ true ∷ true ∷ true ∷ false
    ∷ false ∷ false ∷ false
    ∷ false ∷ false ∷ false ∷ false ∷ false ∷ false ∷ false ∷ false ∷ false ∷ false ∷ false ∷ false ∷ false ∷ false ∷ false ∷ false ∷ false ∷ false ∷ false ∷ false
    ∷ []

abbrev pub fiber_handed_out : List Bool
fiber_handed_out = true ∷ true ∷ true ∷ true ∷ true ∷ true ∷ true ∷ true ∷ true ∷ true ∷ true ∷ []

abbrev pub are_known : Form → Bool
are_known form = list_all (λ method. same_flag (is_handed_out (built_in_program form) method) (is_some (native_method (built_in_program form) method))) (built_in_methods_in form 0)

abbrev pub constructor_with_int : Method
constructor_with_int = built_in_method (codes "<init>") (class_id 0) (int_type ∷ []) None false false Cuttable (Safe ∷ [])

abbrev pub HandedOut : Type 0
HandedOut =
    (map (is_handed_out (built_in_program Plain)) (built_in_methods_in Plain 0) ≡ handed_out)
    × (map (is_handed_out (built_in_program Woven)) (built_in_methods_in Woven 0) ≡ handed_out ++ fiber_handed_out)
    × (are_known Plain ≡ true)
    × (are_known Woven ≡ true)
    × (is_built_in_constructor constructor_with_int ≡ false)
    × (is_handed_out (built_in_program Plain) constructor_with_int ≡ true)
    × (is_handed_out by_hand (own_execute 2 false) ≡ false)

-- ---- frames

-- the instruction behind which a place stands, also the last one; none at the first place
abbrev pub three_instructions : List (ℕ × Instr)
three_instructions = (0, Nop) ∷ (1, Invokestatic (method_id 0)) ∷ (4, Return) ∷ []

abbrev pub Behind : Type 0
Behind =
    (stands_behind three_instructions 5 4 ≡ Some (1, Invokestatic (method_id 0)))
    × (stands_behind three_instructions 5 5 ≡ Some (4, Return))
    × (stands_behind three_instructions 5 0 ≡ None)
    × (stands_behind three_instructions 5 3 ≡ None)

-- a method that is static begins without a receiver
abbrev pub Receivers : Type 0
Receivers = (receiver_of by_hand (method_id 0) (Ref 3 ∷ Null ∷ []) ≡ Some (Ref 3)) × (receiver_of by_hand (method_id 15) (Int (pos 1) ∷ []) ≡ None)

-- ---- exceptions

abbrev pub entry : ℕ → ℕ → ℕ → Option ClassId → Handler
entry start end at catch = record { start = start; end = end; at = at; catch = catch }

-- for `B`, for `A`, and for all, with ranges that overlap
abbrev pub table : List Handler
table = entry 0 4 10 (Some (class_id 1)) ∷ entry 0 8 20 (Some (class_id 0)) ∷ entry 4 5 30 None ∷ []

-- The first entry whose range has the place and whose class is that of the object or above it; the end of a range is outside.
abbrev pub Handlers : Type 0
Handlers =
    (handler_of by_hand (class_id 1) 0 table ≡ Some (entry 0 4 10 (Some (class_id 1))))
    × (handler_of by_hand (class_id 0) 0 table ≡ Some (entry 0 8 20 (Some (class_id 0))))
    × (handler_of by_hand (class_id 1) 4 table ≡ Some (entry 0 8 20 (Some (class_id 0))))
    × (handler_of by_hand (class_id 2) 4 table ≡ Some (entry 4 5 30 None))
    × (handler_of by_hand (class_id 2) 5 table ≡ None)
    × (handler_of by_hand (class_id 0) 8 table ≡ None)

-- the first method has a call at 1, and catches there what is an `A`
abbrev pub catching : Method
catching = record (own_execute 2 false) { code = three_instructions; code_length = 5; handlers = entry 1 4 4 (Some (class_id 0)) ∷ [] }

abbrev pub with_table : Program
with_table = record by_hand { methods = catching ∷ by_hand.methods }

abbrev pub standing : ℕ → Activation
standing place = record { method = method_id 0; place = place; locals = Int (pos 7) ∷ []; stack = Int (pos 8) ∷ [] }

abbrev pub landed : Activation
landed = record { method = method_id 0; place = 4; locals = Int (pos 7) ∷ []; stack = Ref 3 ∷ [] }

-- A top frame is tried at its own place and a lower one at its call; a frame that doesn't catch is dropped.
abbrev pub Unwinds : Type 0
Unwinds =
    (thrown with_table (class_id 1) (Ref 3) (standing 1) [] ≡ landed ∷ [])
    × (thrown with_table (class_id 1) (Ref 3) (standing 4) [] ≡ [])
    × (thrown with_table (class_id 1) (Ref 3) (standing 0) (standing 4 ∷ standing 1 ∷ []) ≡ landed ∷ standing 1 ∷ [])
    × (unwound with_table (class_id 1) (Ref 3) (standing 1 ∷ standing 4 ∷ []) ≡ landed ∷ [])
    × (unwound with_table (class_id 2) (Ref 3) (standing 4 ∷ []) ≡ [])
    × (unwound by_hand (class_id 1) (Ref 3) (standing 4 ∷ []) ≡ [])

abbrev pub named : List ℕ → Program
named name = record by_hand { classes = class_with name 5 [] [] ∷ [] }

-- Each of the six causes has its class, and an index three; what is thrown by code has the word of exactly these.
abbrev pub Words : Type 0
Words =
    (thrown_cause (named (codes "java/lang/ArithmeticException")) (class_id 0) ≡ cause.Zero)
    × (thrown_cause (named (codes "java/lang/IndexOutOfBoundsException")) (class_id 0) ≡ cause.Index)
    × (thrown_cause (named (codes "java/lang/StringIndexOutOfBoundsException")) (class_id 0) ≡ cause.Index)
    × (thrown_cause (named (codes "java/lang/RuntimeException")) (class_id 0) ≡ cause.Thrown)
    × (raised_class (named (codes "java/lang/ArithmeticException")) array_index cause.Zero ≡ Some (class_id 0))
    × (raised_class (named array_index) array_index cause.Index ≡ Some (class_id 0))
    × (raised_class (named array_index) text_index cause.Index ≡ None)
    × (raised_class (named (codes "java/lang/ArithmeticException")) array_index cause.Spent ≡ None)

pub record IsFound : Type 0 where
  pub fields : Fields
  pub shape : Shape
  pub executes : Executes
  pub built_in : HandedOut
  pub behind : Behind
  pub receivers : Receivers
  pub handlers : Handlers
  pub unwinds : Unwinds
  pub words : Words
