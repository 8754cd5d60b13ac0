-- Examples of woven class files: a task that prints, and one that yields again and again.
use Rattle.std.specs.Prelude.{ℕ, true, false, List, [], ◌∷◌, ◌++◌, codes, pos}
use Rattle.kilim_class_attributes.specs.declared.attribute.Attribute.{Attribute}
use Rattle.kilim_class_attributes.specs.declared.attribute.CodeInfo.TheVariants as part
use Rattle.kilim_class_attributes.specs.declared.attribute.Info.TheVariants as info
use Rattle.kilim_class_attributes.specs.declared.parts.frame.Frame.TheVariants.{Full}
use Rattle.kilim_class_attributes.specs.declared.parts.frame.VerificationType.{VerificationType}
use Rattle.kilim_class_attributes.specs.declared.parts.frame.VerificationType.TheVariants as slot
use Rattle.kilim_class_file.specs.declared.class_file.ClassFile.{ClassFile}
use Rattle.kilim_class_file.specs.declared.class_file.MemberInfo.{MemberInfo}
use Rattle.kilim_class_pool.specs.declared.entry.Entry.{Entry}
use Rattle.kilim_class_pool.specs.declared.entry.Entry.TheVariants as entry
use Rattle.kilim_theorems.specs.link_examples.Examples.{a_class, a_file, a_pool, a_code, a_constructor, a_execute}
use Rattle.kilim_theorems.specs.link_examples.Programs.{woven_execute}
use Rattle.kilim_program.specs.BuiltIn.{method_id, class_type, built_in_classes_in, built_in_fields, built_in_methods_in}
use Rattle.kilim_program.specs.declared.class.Form.TheVariants.{Woven}
use Rattle.kilim_program.specs.declared.class.Method.{Method}
use Rattle.kilim_program.specs.declared.instr.Instr.TheVariants.{Aload, Astore, Invokevirtual, Invokestatic, Tableswitch, Ifeq, Iconst, Return, Goto}
use Rattle.kilim_program.specs.declared.verified.Frame.{Frame}
use Rattle.kilim_program.specs.declared.verified.VType.TheVariants.{Top, Object}
use Rattle.kilim_program.specs.Program.{Program}
use Rattle.kilim_weave_file_spec.specs.WovenFile.{MethodPair}

-- ---- the class A, a task that prints seven: its `execute` pauses, and calls nothing that pauses

-- `execute` of the class A, woven: one local more
abbrev pub a_woven_execute : Method
a_woven_execute = record woven_execute { max_locals = 2 }

abbrev pub a_pairs : List MethodPair
a_pairs =
    record { info = record { access_flags = 0; name_index = 5; descriptor_index = 6; attributes = a_code (42 ∷ 183 ∷ 0 ∷ 8 ∷ 177 ∷ []) ∷ [] }; plain = a_constructor; method = a_constructor; counted = true ∷ true ∷ true ∷ [] }
    ∷ record {
      info = record { access_flags = 1; name_index = 9; descriptor_index = 6; attributes = a_code (16 ∷ 7 ∷ 184 ∷ 0 ∷ 19 ∷ 177 ∷ []) ∷ record { attribute_name_index = 11; info = info.Exceptions (13 ∷ []) } ∷ [] };
      plain = a_execute;
      method = a_woven_execute;
      counted = true ∷ true ∷ true ∷ [];
    }
    ∷ []

abbrev pub a_expected : ClassFile
a_expected = record a_file {
  constant_pool = a_pool ++ entry.Utf8 (codes "(Lkilim/Fiber;)V") ∷ [];
  methods =
      record { access_flags = 0; name_index = 5; descriptor_index = 6; attributes = a_code (42 ∷ 183 ∷ 0 ∷ 8 ∷ 177 ∷ []) ∷ [] }
      ∷ record {
        access_flags = 1;
        name_index = 9;
        descriptor_index = 20;
        attributes = record { attribute_name_index = 10; info = info.Code (record { max_stack = 1; max_locals = 2; code = 16 ∷ 7 ∷ 184 ∷ 0 ∷ 19 ∷ 177 ∷ []; exception_table = []; attributes = [] }) } ∷ record { attribute_name_index = 11; info = info.Exceptions (13 ∷ []) } ∷ [];
      }
      ∷ [];
}

-- ---- a task of that name that yields again and again

abbrev pub loop_pool : List Entry
loop_pool = a_pool ++ (entry.Utf8 (codes "yield") ∷ entry.NameAndType 20 6 ∷ entry.Methodref 15 21 ∷ [])

abbrev pub loop_exceptions : Attribute
loop_exceptions = record { attribute_name_index = 11; info = info.Exceptions (13 ∷ []) }

abbrev pub loop_constructor : MemberInfo
loop_constructor = record { access_flags = 0; name_index = 5; descriptor_index = 6; attributes = a_code (42 ∷ 183 ∷ 0 ∷ 8 ∷ 177 ∷ []) ∷ [] }

-- `yield`, `goto 0`
abbrev pub loop_execute : MemberInfo
loop_execute = record { access_flags = 1; name_index = 9; descriptor_index = 6; attributes = a_code (184 ∷ 0 ∷ 22 ∷ 167 ∷ 255 ∷ 253 ∷ []) ∷ loop_exceptions ∷ [] }

abbrev pub loop_file : ClassFile
loop_file = record a_file { constant_pool = loop_pool; methods = loop_constructor ∷ loop_execute ∷ [] }

abbrev pub loop_plain : Method
loop_plain = record a_execute { code = (0, Invokestatic (method_id 18)) ∷ (3, Goto 0) ∷ [] }

abbrev pub loop_frame : Frame
loop_frame = record { locals = Top ∷ Top ∷ Object (class_type 19) ∷ Object (class_type 0) ∷ []; stack = [] }

abbrev pub loop_method : Method
loop_method = record woven_execute {
  max_stack = 4;
  max_locals = 4;
  code_length = 55;
  code =
      (0, Aload 1) ∷ (1, Astore 2) ∷ (2, Aload 0) ∷ (3, Astore 3) ∷ (4, Aload 2) ∷ (5, Invokevirtual (method_id 45)) ∷ (8, Tableswitch 28 (pos 1) (52 ∷ []))
      ∷ (28, Aload 2) ∷ (29, Invokevirtual (method_id 46)) ∷ (32, Invokestatic (method_id 18)) ∷ (35, Aload 2) ∷ (36, Invokevirtual (method_id 47)) ∷ (39, Ifeq 49)
      ∷ (42, Iconst (pos 1)) ∷ (43, Aload 3) ∷ (44, Aload 2) ∷ (45, Invokestatic (method_id 51)) ∷ (48, Return) ∷ (49, Goto 28) ∷ (52, Goto 28) ∷ [];
  frames = (28, loop_frame) ∷ (49, loop_frame) ∷ (52, loop_frame) ∷ [];
}

abbrev pub loop_pairs : List MethodPair
loop_pairs =
    record { info = loop_constructor; plain = a_constructor; method = a_constructor; counted = true ∷ true ∷ true ∷ [] }
    ∷ record {
      info = loop_execute;
      plain = loop_plain;
      method = loop_method;
      counted = false ∷ false ∷ false ∷ false ∷ false ∷ false ∷ false ∷ false ∷ false ∷ true ∷ false ∷ false ∷ false ∷ false ∷ false ∷ false ∷ false ∷ false ∷ true ∷ false ∷ [];
    }
    ∷ []

abbrev pub loop_bytes : List ℕ
loop_bytes =
    43 ∷ 77 ∷ 42 ∷ 78 ∷ 44 ∷ 182 ∷ 0 ∷ 29 ∷ 170 ∷ 0 ∷ 0 ∷ 0 ∷ 0 ∷ 0 ∷ 0 ∷ 20 ∷ 0 ∷ 0 ∷ 0 ∷ 1 ∷ 0 ∷ 0 ∷ 0 ∷ 1 ∷ 0 ∷ 0 ∷ 0 ∷ 44
    ∷ 44 ∷ 182 ∷ 0 ∷ 33 ∷ 184 ∷ 0 ∷ 35 ∷ 44 ∷ 182 ∷ 0 ∷ 38 ∷ 153 ∷ 0 ∷ 10 ∷ 4 ∷ 45 ∷ 44 ∷ 184 ∷ 0 ∷ 42 ∷ 177 ∷ 167 ∷ 255 ∷ 235 ∷ 167 ∷ 255 ∷ 232 ∷ []

abbrev pub loop_locals : List VerificationType
loop_locals = slot.Top ∷ slot.Top ∷ slot.Object 25 ∷ slot.Object 2 ∷ []

abbrev pub loop_expected : ClassFile
loop_expected = record a_file {
  constant_pool = loop_pool ++ (
      entry.Utf8 (codes "(Lkilim/Fiber;)V")
      ∷ entry.Utf8 (codes "kilim/Fiber") ∷ entry.Class 24 ∷ entry.Utf8 (codes "pc") ∷ entry.Utf8 (codes "()I") ∷ entry.NameAndType 26 27 ∷ entry.Methodref 25 28
      ∷ entry.Utf8 (codes "down") ∷ entry.Utf8 (codes "()Lkilim/Fiber;") ∷ entry.NameAndType 30 31 ∷ entry.Methodref 25 32
      ∷ entry.NameAndType 20 23 ∷ entry.Methodref 15 34
      ∷ entry.Utf8 (codes "up") ∷ entry.NameAndType 36 27 ∷ entry.Methodref 25 37
      ∷ entry.Utf8 (codes "place") ∷ entry.Utf8 (codes "(ILjava/lang/Object;Lkilim/Fiber;)V") ∷ entry.NameAndType 39 40 ∷ entry.Methodref 25 41
      ∷ entry.Utf8 (codes "StackMapTable") ∷ []);
  methods =
      loop_constructor
      ∷ record {
        access_flags = 1;
        name_index = 9;
        descriptor_index = 23;
        attributes = record {
          attribute_name_index = 10;
          info = info.Code (record {
            max_stack = 4;
            max_locals = 4;
            code = loop_bytes;
            exception_table = [];
            attributes = record { attribute_name_index = 43; info = part.StackMapTable (Full 28 loop_locals [] ∷ Full 20 loop_locals [] ∷ Full 2 loop_locals [] ∷ []) } ∷ [];
          });
        } ∷ loop_exceptions ∷ [];
      }
      ∷ [];
}

-- the woven program
abbrev pub loop_program : Program
loop_program = record { classes = a_class ∷ built_in_classes_in Woven 1 2; methods = a_constructor ∷ loop_method ∷ built_in_methods_in Woven 1; fields = built_in_fields 1; form = Woven }
