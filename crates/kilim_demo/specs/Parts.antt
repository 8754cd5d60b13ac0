-- Parts of the class files of the demo (JVMS 4.1, 4.5, 4.6, 4.7).
use Rattle.std.specs.Prelude.{ℕ, List, [], ◌∷◌}
use Rattle.kilim_class_pool.specs.declared.entry.Entry.{Entry}
use Rattle.kilim_class_attributes.specs.declared.parts.frame.Frame.{Frame}
use Rattle.kilim_class_attributes.specs.declared.attribute.Attribute.{Attribute}
use Rattle.kilim_class_attributes.specs.declared.attribute.CodeAttribute.{CodeAttribute}
use Rattle.kilim_class_attributes.specs.declared.attribute.CodeInfo.TheVariants as inside
use Rattle.kilim_class_attributes.specs.declared.attribute.Info.TheVariants as info
use Rattle.kilim_class_file.specs.declared.class_file.ClassFile.{ClassFile}
use Rattle.kilim_class_file.specs.declared.class_file.MemberInfo.{MemberInfo}

-- ACC_SUPER and ACC_PUBLIC
abbrev pub super_flag : ℕ
super_flag = 0x20

abbrev pub public_flag : ℕ
public_flag = 1

abbrev pub field : ℕ → ℕ → MemberInfo
field name descriptor = record { access_flags = 0; name_index = name; descriptor_index = descriptor; attributes = [] }

abbrev pub method : ℕ → ℕ → ℕ → List Attribute → MemberInfo
method flags name descriptor attributes = record { access_flags = flags; name_index = name; descriptor_index = descriptor; attributes = attributes }

-- the sizes of the stack and of the locals, the bytes of the code, and what stands behind them
abbrev pub code_attribute : ℕ → ℕ → ℕ → List ℕ → List CodeAttribute → Attribute
code_attribute name stack locals code attributes = record {
  attribute_name_index = name;
  info = info.Code (record { max_stack = stack; max_locals = locals; code = code; exception_table = []; attributes = attributes });
}

abbrev pub frames_attribute : ℕ → List Frame → CodeAttribute
frames_attribute name frames = record { attribute_name_index = name; info = inside.StackMapTable frames }

abbrev pub exceptions_attribute : ℕ → ℕ → Attribute
exceptions_attribute name class = record { attribute_name_index = name; info = info.Exceptions (class ∷ []) }

-- a class file of version 52.0, with its own class at the index 2 of its pool and the superclass at 4
abbrev pub class_file : List Entry → List ℕ → List MemberInfo → List MemberInfo → ClassFile
class_file pool interfaces fields methods = record {
  minor_version = 0;
  major_version = 52;
  constant_pool = pool;
  access_flags = super_flag;
  this_class = 2;
  super_class = 4;
  interfaces = interfaces;
  fields = fields;
  methods = methods;
  attributes = [];
}
