-- More programs: the woven form of the class A, and code that names a field of an ancestor.
use Rattle.std.specs.Prelude.{◌≡◌, ℕ, pos, negsuc, false, true, List, [], ◌∷◌, ◌++◌, Some, None, codes}
use Rattle.kilim_class_attributes.specs.declared.attribute.Attribute.{Attribute}
use Rattle.kilim_class_attributes.specs.declared.attribute.Info.TheVariants as info
use Rattle.kilim_class_file.specs.declared.class_file.ClassFile.{ClassFile}
use Rattle.kilim_class_pool.specs.declared.entry.Entry.TheVariants as entry
use Rattle.kilim_program.specs.declared.class.Class.{Class}
use Rattle.kilim_program.specs.declared.class.Field.{Field}
use Rattle.kilim_program.specs.declared.class.Form.TheVariants.{Plain, Woven}
use Rattle.kilim_program.specs.declared.class.Method.{Method}
use Rattle.kilim_program.specs.declared.instr.Instr.{Instr}
use Rattle.kilim_program.specs.declared.instr.Instr.TheVariants.{Aload, Getfield, Ldc, Pop, Iload, Iinc, Tableswitch, Newarray, Anewarray, GotoW, Return}
use Rattle.kilim_program.specs.declared.ty.Base.TheVariants as base
use Rattle.kilim_program.specs.declared.ty.Qualifier.TheVariants.{Safe}
use Rattle.kilim_program.specs.declared.value.Value.TheVariants.{Text}
use Rattle.kilim_program.specs.Program.{Program}
use Rattle.kilim_program.specs.BuiltIn.{class_id, method_id, class_type, int_type, built_in_classes, built_in_methods, built_in_classes_in, built_in_fields, built_in_methods_in}
use Rattle.kilim_program.specs.Keeps.{Keeps}
use Rattle.kilim_link_spec.specs.World.{field_id}
use Rattle.kilim_link_spec.specs.Types.{typed}
use Rattle.kilim_link_spec.specs.Linked.{Linked}
use Rattle.kilim_link_spec.specs.Faults.{first_fault}
use Rattle.kilim_theorems.specs.link_examples.Examples.{a_file, a_pool, a_code, a_class, a_constructor, a_execute, file, object, p_name, member, texts, with_field, with_method}
use Rattle.kilim_theorems.specs.link_examples.Details.{q_name, m_name, nothing}

-- ---- the class A whose `execute` is handed the fiber

abbrev pub woven_file : ClassFile
woven_file = record a_file {
  constant_pool = a_pool ++ entry.Utf8 (codes "(Lkilim/Fiber;)V") ∷ [];
  methods =
      record { access_flags = 0; name_index = 5; descriptor_index = 6; attributes = a_code (42 ∷ 183 ∷ 0 ∷ 8 ∷ 177 ∷ []) ∷ [] }
      ∷ record { access_flags = 1; name_index = 9; descriptor_index = 20; attributes = a_code (16 ∷ 7 ∷ 184 ∷ 0 ∷ 19 ∷ 177 ∷ []) ∷ record { attribute_name_index = 11; info = info.Exceptions (13 ∷ []) } ∷ [] }
      ∷ [];
}

-- `kilim/Fiber` is the nineteenth class behind it
abbrev pub woven_execute : Method
woven_execute = record a_execute { params = class_type 19 ∷ []; qualifiers = Safe ∷ [] }

abbrev pub woven_program : Program
woven_program = record {
  classes = a_class ∷ built_in_classes_in Woven 1 2;
  methods = a_constructor ∷ woven_execute ∷ built_in_methods_in Woven 1;
  fields = built_in_fields 1;
  form = Woven;
}

-- ---- Q with a field, and P that extends it

abbrev pub q_file : ClassFile
q_file = with_field (file q_name object (texts (codes "x") (codes "I"))) (member 0 [])

-- `getfield P.x`, `ldc "s"`, `pop`, `wide iload 256`, `iinc 1 -1`, a `tableswitch`, `newarray int`, `anewarray P`,
-- `goto_w`, `return`
abbrev pub p_bytes : List ℕ
p_bytes =
    42 ∷ 180 ∷ 0 ∷ 11 ∷ 18 ∷ 13 ∷ 87 ∷ 196 ∷ 21 ∷ 1 ∷ 0 ∷ 132 ∷ 1 ∷ 255
    ∷ 170 ∷ 0 ∷ 0 ∷ 0 ∷ 0 ∷ 32 ∷ 0 ∷ 0 ∷ 0 ∷ 1 ∷ 0 ∷ 0 ∷ 0 ∷ 2 ∷ 0 ∷ 0 ∷ 0 ∷ 22 ∷ 0 ∷ 0 ∷ 0 ∷ 32
    ∷ 188 ∷ 10 ∷ 189 ∷ 0 ∷ 2 ∷ 200 ∷ 255 ∷ 255 ∷ 255 ∷ 215 ∷ 177
    ∷ []

abbrev pub p_instrs : List (ℕ × Instr)
p_instrs =
    (0, Aload 0) ∷ (1, Getfield (field_id 1)) ∷ (4, Ldc (Text (codes "s"))) ∷ (6, Pop) ∷ (7, Iload 256) ∷ (11, Iinc 1 (negsuc 0))
    ∷ (14, Tableswitch 46 (pos 1) (36 ∷ 46 ∷ [])) ∷ (36, Newarray base.Int) ∷ (38, Anewarray (typed 0 (base.Class (class_id 1)))) ∷ (41, GotoW 0) ∷ (46, Return)
    ∷ []

abbrev pub p_code : Attribute
p_code = record { attribute_name_index = 7; info = info.Code (record { max_stack = 9; max_locals = 300; code = p_bytes; exception_table = []; attributes = [] }) }

abbrev pub p_linked : ClassFile
p_linked =
    with_method
    (file p_name q_name (texts m_name nothing ++ (entry.Utf8 (codes "Code") ∷ entry.Utf8 (codes "x") ∷ entry.Utf8 (codes "I") ∷ entry.NameAndType 8 9 ∷ entry.Fieldref 2 10 ∷ entry.Utf8 (codes "s") ∷ entry.String 12 ∷ [])))
    (member 0x0002 (p_code ∷ []))

abbrev pub x_field : Field
x_field = record { name = codes "x"; ty = int_type; owner = class_id 0; is_static = false; is_private = false; constant = None }

abbrev pub m_method : Method
m_method = record {
  name = m_name;
  owner = class_id 1;
  params = [];
  result = None;
  is_static = false;
  is_private = true;
  is_abstract = false;
  built_in = false;
  pausable = false;
  receiver = Safe;
  qualifiers = [];
  max_stack = 9;
  max_locals = 300;
  code_length = 47;
  code = p_instrs;
  frames = [];
  handlers = [];
}

abbrev pub q_class : Class
q_class = record { name = q_name; superclass = Some (class_id 2); is_abstract = false; message = false; fields = field_id 1 ∷ []; methods = [] }

abbrev pub p_class : Class
p_class = record { name = p_name; superclass = Some (class_id 0); is_abstract = false; message = false; fields = []; methods = method_id 0 ∷ [] }

abbrev pub pair_program : Program
pair_program = record {
  classes = q_class ∷ p_class ∷ built_in_classes 2 1;
  methods = m_method ∷ built_in_methods 2;
  fields = built_in_fields 2 ++ x_field ∷ [];
  form = Plain;
}

pub record ProgramsAreLinked : Type 0 where
  pub woven : Linked (woven_file ∷ []) Woven woven_program
  pub woven_fault : first_fault (woven_file ∷ []) Woven ≡ None
  pub woven_keeps : Keeps woven_program
  pub pair : Linked (q_file ∷ p_linked ∷ []) Plain pair_program
  pub pair_fault : first_fault (q_file ∷ p_linked ∷ []) Plain ≡ None
  pub pair_keeps : Keeps pair_program
