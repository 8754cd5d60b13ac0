-- Examples: the program that a class file links to, and small class files with each kind of fault.
use Rattle.std.specs.Prelude.{◌≡◌, ℕ, ◌++◌, pos, true, false, List, [], ◌∷◌, Some, None, Ok, codes}
use Rattle.kilim_class_attributes.specs.declared.attribute.Attribute.{Attribute}
use Rattle.kilim_class_attributes.specs.declared.attribute.Info.TheVariants as info
use Rattle.kilim_class_code.specs.declared.fault.CodeFault.TheVariants as code
use Rattle.kilim_class_file.specs.declared.class_file.ClassFile.{ClassFile}
use Rattle.kilim_class_file.specs.declared.class_file.MemberInfo.{MemberInfo}
use Rattle.kilim_class_file.specs.Reading.{read_class}
use Rattle.kilim_class_pool.specs.declared.entry.Entry.{Entry}
use Rattle.kilim_class_pool.specs.declared.entry.Entry.TheVariants as entry
use Rattle.kilim_program.specs.declared.class.Class.{Class}
use Rattle.kilim_program.specs.declared.class.Form.TheVariants.{Plain}
use Rattle.kilim_program.specs.declared.class.Method.{Method}
use Rattle.kilim_program.specs.declared.instr.Instr.{Instr}
use Rattle.kilim_program.specs.declared.instr.Instr.TheVariants.{Aload, Bipush, Invokespecial, Invokestatic, Return}
use Rattle.kilim_program.specs.declared.ty.Qualifier.TheVariants.{Cuttable}
use Rattle.kilim_program.specs.Program.{Program}
use Rattle.kilim_program.specs.BuiltIn.{class_id, method_id, built_in_classes, built_in_fields, built_in_methods}
use Rattle.kilim_program.specs.Keeps.{Keeps}
use Rattle.kilim_link_spec.specs.declared.fault.LeftOutPart.TheVariants as part
use Rattle.kilim_link_spec.specs.declared.fault.LinkFault.TheVariants as fault
use Rattle.kilim_link_spec.specs.declared.fault.Problem.{Problem}
use Rattle.kilim_link_spec.specs.declared.fault.Problem.TheVariants as problem
use Rattle.kilim_link_spec.specs.Linked.{Linked}
use Rattle.kilim_link_spec.specs.Faults.{first_fault}

-- ---- a class file of 235 bytes: the class A, a task whose `execute` prints 7

abbrev pub a_bytes : List ℕ
a_bytes =
    0xca ∷ 0xfe ∷ 0xba ∷ 0xbe ∷ 0x00 ∷ 0x00 ∷ 0x00 ∷ 0x34 ∷ 0x00 ∷ 0x14 ∷ 0x01 ∷ 0x00 ∷ 0x01 ∷ 0x41 ∷ 0x07 ∷ 0x00 ∷ 0x01 ∷ 0x01 ∷ 0x00 ∷ 0x0a ∷ 0x6b ∷ 0x69 ∷ 0x6c ∷ 0x69
    ∷ 0x6d ∷ 0x2f ∷ 0x54 ∷ 0x61 ∷ 0x73 ∷ 0x6b ∷ 0x07 ∷ 0x00 ∷ 0x03 ∷ 0x01 ∷ 0x00 ∷ 0x06 ∷ 0x3c ∷ 0x69 ∷ 0x6e ∷ 0x69 ∷ 0x74 ∷ 0x3e ∷ 0x01 ∷ 0x00 ∷ 0x03 ∷ 0x28 ∷ 0x29 ∷ 0x56
    ∷ 0x0c ∷ 0x00 ∷ 0x05 ∷ 0x00 ∷ 0x06 ∷ 0x0a ∷ 0x00 ∷ 0x04 ∷ 0x00 ∷ 0x07 ∷ 0x01 ∷ 0x00 ∷ 0x07 ∷ 0x65 ∷ 0x78 ∷ 0x65 ∷ 0x63 ∷ 0x75 ∷ 0x74 ∷ 0x65 ∷ 0x01 ∷ 0x00 ∷ 0x04 ∷ 0x43
    ∷ 0x6f ∷ 0x64 ∷ 0x65 ∷ 0x01 ∷ 0x00 ∷ 0x0a ∷ 0x45 ∷ 0x78 ∷ 0x63 ∷ 0x65 ∷ 0x70 ∷ 0x74 ∷ 0x69 ∷ 0x6f ∷ 0x6e ∷ 0x73 ∷ 0x01 ∷ 0x00 ∷ 0x0e ∷ 0x6b ∷ 0x69 ∷ 0x6c ∷ 0x69 ∷ 0x6d
    ∷ 0x2f ∷ 0x50 ∷ 0x61 ∷ 0x75 ∷ 0x73 ∷ 0x61 ∷ 0x62 ∷ 0x6c ∷ 0x65 ∷ 0x07 ∷ 0x00 ∷ 0x0c ∷ 0x01 ∷ 0x00 ∷ 0x09 ∷ 0x6b ∷ 0x69 ∷ 0x6c ∷ 0x69 ∷ 0x6d ∷ 0x2f ∷ 0x53 ∷ 0x79 ∷ 0x73
    ∷ 0x07 ∷ 0x00 ∷ 0x0e ∷ 0x01 ∷ 0x00 ∷ 0x05 ∷ 0x70 ∷ 0x72 ∷ 0x69 ∷ 0x6e ∷ 0x74 ∷ 0x01 ∷ 0x00 ∷ 0x04 ∷ 0x28 ∷ 0x49 ∷ 0x29 ∷ 0x56 ∷ 0x0c ∷ 0x00 ∷ 0x10 ∷ 0x00 ∷ 0x11 ∷ 0x0a
    ∷ 0x00 ∷ 0x0f ∷ 0x00 ∷ 0x12 ∷ 0x00 ∷ 0x20 ∷ 0x00 ∷ 0x02 ∷ 0x00 ∷ 0x04 ∷ 0x00 ∷ 0x00 ∷ 0x00 ∷ 0x00 ∷ 0x00 ∷ 0x02 ∷ 0x00 ∷ 0x00 ∷ 0x00 ∷ 0x05 ∷ 0x00 ∷ 0x06 ∷ 0x00 ∷ 0x01
    ∷ 0x00 ∷ 0x0a ∷ 0x00 ∷ 0x00 ∷ 0x00 ∷ 0x11 ∷ 0x00 ∷ 0x01 ∷ 0x00 ∷ 0x01 ∷ 0x00 ∷ 0x00 ∷ 0x00 ∷ 0x05 ∷ 0x2a ∷ 0xb7 ∷ 0x00 ∷ 0x08 ∷ 0xb1 ∷ 0x00 ∷ 0x00 ∷ 0x00 ∷ 0x00 ∷ 0x00
    ∷ 0x01 ∷ 0x00 ∷ 0x09 ∷ 0x00 ∷ 0x06 ∷ 0x00 ∷ 0x02 ∷ 0x00 ∷ 0x0a ∷ 0x00 ∷ 0x00 ∷ 0x00 ∷ 0x12 ∷ 0x00 ∷ 0x01 ∷ 0x00 ∷ 0x01 ∷ 0x00 ∷ 0x00 ∷ 0x00 ∷ 0x06 ∷ 0x10 ∷ 0x07 ∷ 0xb8
    ∷ 0x00 ∷ 0x13 ∷ 0xb1 ∷ 0x00 ∷ 0x00 ∷ 0x00 ∷ 0x00 ∷ 0x00 ∷ 0x0b ∷ 0x00 ∷ 0x00 ∷ 0x00 ∷ 0x04 ∷ 0x00 ∷ 0x01 ∷ 0x00 ∷ 0x0d ∷ 0x00 ∷ 0x00 ∷ []

-- `aload_0`, `invokespecial kilim/Task.<init>()V`, `return`
abbrev pub a_constructor_code : List (ℕ × Instr)
a_constructor_code = (0, Aload 0) ∷ (1, Invokespecial (method_id 6)) ∷ (4, Return) ∷ []

-- `bipush 7`, `invokestatic kilim/Sys.print(I)V`, `return`
abbrev pub a_execute_code : List (ℕ × Instr)
a_execute_code = (0, Bipush (pos 7)) ∷ (2, Invokestatic (method_id 15)) ∷ (5, Return) ∷ []

abbrev pub a_constructor : Method
a_constructor = record {
  name = codes "<init>";
  owner = class_id 0;
  params = [];
  result = None;
  is_static = false;
  is_private = false;
  is_abstract = false;
  built_in = false;
  pausable = false;
  receiver = Cuttable;
  qualifiers = [];
  max_stack = 1;
  max_locals = 1;
  code_length = 5;
  code = a_constructor_code;
  frames = [];
  handlers = [];
}

abbrev pub a_execute : Method
a_execute = record a_constructor { name = codes "execute"; pausable = true; code_length = 6; code = a_execute_code }

abbrev pub a_class : Class
a_class = record { name = codes "A"; superclass = Some (class_id 5); is_abstract = false; message = false; fields = []; methods = method_id 0 ∷ method_id 1 ∷ [] }

abbrev pub a_program : Program
a_program = record {
  classes = a_class ∷ built_in_classes 1 2;
  methods = a_constructor ∷ a_execute ∷ built_in_methods 1;
  fields = built_in_fields 1;
  form = Plain;
}

abbrev pub a_pool : List Entry
a_pool =
    entry.Utf8 (codes "A") ∷ entry.Class 1
    ∷ entry.Utf8 (codes "kilim/Task") ∷ entry.Class 3
    ∷ entry.Utf8 (codes "<init>") ∷ entry.Utf8 (codes "()V") ∷ entry.NameAndType 5 6 ∷ entry.Methodref 4 7
    ∷ entry.Utf8 (codes "execute") ∷ entry.Utf8 (codes "Code") ∷ entry.Utf8 (codes "Exceptions")
    ∷ entry.Utf8 (codes "kilim/Pausable") ∷ entry.Class 12
    ∷ entry.Utf8 (codes "kilim/Sys") ∷ entry.Class 14
    ∷ entry.Utf8 (codes "print") ∷ entry.Utf8 (codes "(I)V") ∷ entry.NameAndType 16 17 ∷ entry.Methodref 15 18
    ∷ []

abbrev pub a_code : List ℕ → Attribute
a_code bytes = record { attribute_name_index = 10; info = info.Code (record { max_stack = 1; max_locals = 1; code = bytes; exception_table = []; attributes = [] }) }

abbrev pub a_methods : List MemberInfo
a_methods =
    record { access_flags = 0; name_index = 5; descriptor_index = 6; attributes = a_code (42 ∷ 183 ∷ 0 ∷ 8 ∷ 177 ∷ []) ∷ [] }
    ∷ record { access_flags = 1; name_index = 9; descriptor_index = 6; attributes = a_code (16 ∷ 7 ∷ 184 ∷ 0 ∷ 19 ∷ 177 ∷ []) ∷ record { attribute_name_index = 11; info = info.Exceptions (13 ∷ []) } ∷ [] }
    ∷ []

abbrev pub a_file : ClassFile
a_file = record {
  minor_version = 0;
  major_version = 52;
  constant_pool = a_pool;
  access_flags = 0x0020;
  this_class = 2;
  super_class = 4;
  interfaces = [];
  fields = [];
  methods = a_methods;
  attributes = [];
}

pub record AIsLinked : Type 0 where
  pub read : read_class a_bytes ≡ Ok a_file
  pub links : Linked (a_file ∷ []) Plain a_program
  pub fault : first_fault (a_file ∷ []) Plain ≡ None
  -- and it is a program
  pub keeps : Keeps a_program

-- ---- small class files: their pool begins with the class at 2 and the superclass at 4, and goes on with these entries

abbrev pub file_with : ℕ → List ℕ → List ℕ → List Entry → ClassFile
file_with flags name super more = record {
  minor_version = 0;
  major_version = 52;
  constant_pool = entry.Utf8 name ∷ entry.Class 1 ∷ entry.Utf8 super ∷ entry.Class 3 ∷ more;
  access_flags = flags;
  this_class = 2;
  super_class = 4;
  interfaces = [];
  fields = [];
  methods = [];
  attributes = [];
}

-- with ACC_SUPER alone
abbrev pub file : List ℕ → List ℕ → List Entry → ClassFile
file name super more = file_with 0x0020 name super more

abbrev pub object : List ℕ
object = codes "java/lang/Object"

abbrev pub p_name : List ℕ
p_name = codes "P"

-- a member with its name at 5 and its descriptor at 6
abbrev pub member : ℕ → List Attribute → MemberInfo
member flags attributes = record { access_flags = flags; name_index = 5; descriptor_index = 6; attributes = attributes }

-- its code, under the name at 7
abbrev pub code_attribute : List ℕ → Attribute
code_attribute bytes = record { attribute_name_index = 7; info = info.Code (record { max_stack = 0; max_locals = 0; code = bytes; exception_table = []; attributes = [] }) }

abbrev pub texts : List ℕ → List ℕ → List Entry
texts name descriptor = entry.Utf8 name ∷ entry.Utf8 descriptor ∷ []

abbrev pub with_field : ClassFile → MemberInfo → ClassFile
with_field f field = record f { fields = field ∷ [] }

abbrev pub with_method : ClassFile → MemberInfo → ClassFile
with_method f method = record f { methods = method ∷ [] }

-- a static method `m()V` with that code; the pool has its texts, and then these entries
abbrev pub with_code : List ℕ → List Entry → ClassFile
with_code bytes more = with_method (file p_name object (texts (codes "m") (codes "()V") ++ (entry.Utf8 (codes "Code") ∷ more))) (member 0x0008 (code_attribute bytes ∷ []))

-- in plain form
abbrev pub Named : List ClassFile → List ℕ → Problem → Type 0
Named files name p = first_fault files Plain ≡ Some (fault.InClass name p)

-- ---- each kind

abbrev pub p_file : ClassFile
p_file = file p_name object []

abbrev pub no_fault : Type 0
no_fault = first_fault (p_file ∷ []) Plain ≡ None

abbrev pub twice : Type 0
twice = Named (p_file ∷ p_file ∷ []) p_name (problem.Twice p_name)

abbrev pub built_in_given : Type 0
built_in_given = Named (file (codes "kilim/Task") object [] ∷ []) (codes "kilim/Task") (problem.Twice (codes "kilim/Task"))

abbrev pub missing : Type 0
missing = Named (file p_name (codes "X") [] ∷ []) p_name (problem.Missing (codes "X"))

-- P extends Q, Q extends P, and R that extends P has no fault of its own
abbrev pub circular : Type 0
circular = Named (file (codes "R") p_name [] ∷ file p_name (codes "Q") [] ∷ file (codes "Q") p_name [] ∷ []) p_name problem.Circular

-- `invokestatic kilim/Sys.none()V`, `return`
abbrev pub no_member : Type 0
no_member =
    Named (with_code (184 ∷ 0 ∷ 12 ∷ 177 ∷ []) (entry.Utf8 (codes "kilim/Sys") ∷ entry.Class 8 ∷ entry.Utf8 (codes "none") ∷ entry.NameAndType 10 6 ∷ entry.Methodref 9 11 ∷ []) ∷ []) p_name
    (problem.NoMember (record { owner = codes "kilim/Sys"; name = codes "none"; descriptor = codes "()V" }))

-- without ACC_SUPER
abbrev pub left_out : Type 0
left_out = Named (file_with 0 p_name object [] ∷ []) p_name (problem.LeftOut part.NoSuperFlag)

-- `fconst_0` in its code; the flag is missing too, and the instruction is named
abbrev pub left_out_first : Type 0
left_out_first = Named (record (with_code (11 ∷ 177 ∷ []) []) { access_flags = 0 } ∷ []) p_name (problem.LeftOut (part.Opcode 11))

-- a task that lists `kilim/Message`
abbrev pub both : Type 0
both = Named (record (file p_name (codes "kilim/Task") (entry.Utf8 (codes "kilim/Message") ∷ entry.Class 5 ∷ [])) { interfaces = 6 ∷ [] } ∷ []) p_name problem.Both

-- a task with a field of type `java/lang/Object`
abbrev pub field_kind : Type 0
field_kind =
    Named (with_field (file p_name (codes "kilim/Task") (texts (codes "o") (codes "Ljava/lang/Object;"))) (member 0 []) ∷ []) p_name
    (problem.FieldKind (record { name = codes "o"; descriptor = codes "Ljava/lang/Object;" }))

-- an abstract task whose `execute()V` doesn't pause
abbrev pub override_differs : Type 0
override_differs =
    Named (with_method (file_with 0x0420 p_name (codes "kilim/Task") (texts (codes "execute") (codes "()V"))) (member 0x0401 []) ∷ []) p_name
    (problem.OverrideDiffers (record { name = codes "execute"; descriptor = codes "()V" }))

-- `nop` alone
abbrev pub code_broken : Type 0
code_broken = Named (with_code (0 ∷ []) [] ∷ []) p_name (problem.Code (record { name = codes "m"; descriptor = codes "()V" }) (code.FallsOff 0))

-- a field with the descriptor X
abbrev pub descriptor_broken : Type 0
descriptor_broken = Named (with_field (file p_name object (texts (codes "x") (codes "X"))) (member 0 []) ∷ []) p_name (problem.Descriptor (codes "X"))

abbrev pub super_kind : Type 0
super_kind = Named (file p_name (codes "kilim/Sys") [] ∷ []) p_name problem.SuperKind

abbrev pub name_broken : Type 0
name_broken = Named (file (codes "a//b") object [] ∷ []) (codes "a//b") problem.Name

-- of two kinds the one that is listed first
abbrev pub missing_before_name : Type 0
missing_before_name = Named (file (codes "a//b") (codes "X") [] ∷ []) (codes "a//b") (problem.Missing (codes "X"))

-- a class that isn't abstract, with an abstract method
abbrev pub abstract_left : Type 0
abstract_left =
    Named (with_method (file p_name object (texts (codes "m") (codes "()V"))) (member 0x0401 []) ∷ []) p_name
    (problem.AbstractLeft (record { name = codes "m"; descriptor = codes "()V" }))

pub record ExamplesHold : Type 0 where
  pub is_no_fault : no_fault
  pub is_twice : twice
  pub is_built_in_given : built_in_given
  pub is_missing : missing
  pub is_circular : circular
  pub is_no_member : no_member
  pub is_left_out : left_out
  pub is_left_out_first : left_out_first
  pub is_both : both
  pub is_field_kind : field_kind
  pub is_override : override_differs
  pub is_code : code_broken
  pub is_descriptor : descriptor_broken
  pub is_super : super_kind
  pub is_name : name_broken
  pub is_missing_before_name : missing_before_name
  pub is_abstract_left : abstract_left
