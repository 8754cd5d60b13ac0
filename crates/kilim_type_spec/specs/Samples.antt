-- Examples: a small program whose types and methods the examples of this crate speak of.
use Rattle.std.specs.Prelude.{ℕ, Bool, true, false, List, [], ◌∷◌, ◌++◌, Option, Some, None, codes}
use Rattle.kilim_program.specs.declared.class.Class.{Class}
use Rattle.kilim_program.specs.declared.class.Field.{Field}
use Rattle.kilim_program.specs.declared.class.Form.TheVariants.{Plain}
use Rattle.kilim_program.specs.declared.class.Method.{Method}
use Rattle.kilim_program.specs.declared.instr.Instr.{Instr}
use Rattle.kilim_program.specs.declared.names.MethodId.{MethodId}
use Rattle.kilim_program.specs.declared.ty.Base.{Base}
use Rattle.kilim_program.specs.declared.ty.Base.TheVariants as base
use Rattle.kilim_program.specs.declared.ty.Qualifier.TheVariants.{Safe}
use Rattle.kilim_program.specs.declared.ty.Ty.{Ty}
use Rattle.kilim_program.specs.declared.verified.Frame.{Frame}
use Rattle.kilim_program.specs.declared.verified.VType.{VType}
use Rattle.kilim_program.specs.declared.verified.VType.TheVariants.{Object}
use Rattle.kilim_program.specs.Program.{Program}
use Rattle.kilim_program.specs.BuiltIn.{class_id, class_type, int_type, plain_type, method_id, built_in_classes_in, built_in_fields, built_in_methods_in}

-- Its classes: M is a message, N extends M, P is a private class, Q an abstract one below P; then the built-in ones.
abbrev pub m_class : ℕ
m_class = 0

abbrev pub n_class : ℕ
n_class = 1

abbrev pub p_class : ℕ
p_class = 2

abbrev pub q_class : ℕ
q_class = 3

abbrev pub object_class : ℕ
object_class = 4

abbrev pub string_class : ℕ
string_class = 5

abbrev pub message_class : ℕ
message_class = 6

abbrev pub task_class : ℕ
task_class = 8

abbrev pub sample_class : List ℕ → ℕ → Bool → Bool → List MethodId → Class
sample_class name up is_abstract message methods =
    record { name = name; superclass = Some (class_id up); is_abstract = is_abstract; message = message; fields = []; methods = methods }

abbrev pub sample_field : List ℕ → ℕ → Ty → Bool → Field
sample_field name owner ty is_private =
    record { name = name; ty = ty; owner = class_id owner; is_static = false; is_private = is_private; constant = None }

-- a method of a class with four words of stack and three locals, without code
abbrev pub sample_method : List ℕ → ℕ → List Ty → Option Ty → Bool → Bool → Method
sample_method name owner params result is_static is_private =
    record { name = name; owner = class_id owner; params = params; result = result; is_static = is_static; is_private = is_private; is_abstract = false; built_in = false; pausable = false; receiver = Safe; qualifiers = []; max_stack = 4; max_locals = 3; code_length = 0; code = []; frames = []; handlers = [] }

-- their methods: 0 M's constructor, 1 N's, 2 P's private one, 3 P's, 4 Q's, 5 the abstract one of Q, 6 a static one of P
abbrev pub own_methods : List Method
own_methods =
    sample_method (codes "<init>") m_class [] None false false
    ∷ sample_method (codes "<init>") n_class [] None false false
    ∷ sample_method (codes "hidden") p_class [] None false true
    ∷ sample_method (codes "shown") p_class (int_type ∷ []) (Some int_type) false false
    ∷ sample_method (codes "shown") q_class (int_type ∷ []) (Some int_type) false false
    ∷ record (sample_method (codes "left") q_class [] None false false) { is_abstract = true }
    ∷ sample_method (codes "fixed") p_class (plain_type base.Long ∷ []) None true false
    ∷ []

-- fields: 1 the int of M, 2 the message of M, 3 the private int of P
abbrev pub sample : Program
sample = record {
  classes =
      sample_class (codes "M") object_class false true (method_id 0 ∷ [])
      ∷ sample_class (codes "N") m_class false true (method_id 1 ∷ [])
      ∷ sample_class (codes "P") object_class false false (method_id 2 ∷ method_id 3 ∷ method_id 6 ∷ [])
      ∷ sample_class (codes "Q") p_class true false (method_id 4 ∷ method_id 5 ∷ [])
      ∷ built_in_classes_in Plain 4 7;
  methods = own_methods ++ built_in_methods_in Plain 4;
  fields =
      built_in_fields 4
      ++ sample_field (codes "value") m_class int_type false
      ∷ sample_field (codes "next") m_class (class_type message_class) false
      ∷ sample_field (codes "own") p_class int_type true
      ∷ [];
  form = Plain;
}

-- a type of the class, and of arrays
abbrev pub of_class : ℕ → VType
of_class n = Object (class_type n)

abbrev pub array : ℕ → Base → VType
array dims b = Object (record { dims = dims; base = b })

abbrev pub classes_array : ℕ → ℕ → VType
classes_array dims c = array dims (base.Class (class_id c))

-- a method of the class P with that code
abbrev pub with_code : List (ℕ × Instr) → ℕ → List (ℕ × Frame) → Method
with_code code end frames = record (sample_method (codes "run") p_class [] None false false) { code = code; code_length = end; frames = frames }
