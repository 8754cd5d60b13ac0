-- Examples of searching: numbers by order, members of the nearest ancestor, and what a class file names, place by place.
use Rattle.std.specs.Prelude.{◌≡◌, ℕ, suc, List, [], ◌∷◌, ◌++◌, map, take, drop, Option, Some, option_map, codes}
use Rattle.kilim_class_attributes.specs.declared.parts.annotation.AnnotationPart.TheVariants.{Annotations, Annotation}
use Rattle.kilim_class_attributes.specs.declared.parts.frame.Frame.{Frame as FrameForm}
use Rattle.kilim_class_attributes.specs.declared.parts.frame.Frame.TheVariants as form
use Rattle.kilim_class_attributes.specs.declared.parts.frame.VerificationType.TheVariants as slot
use Rattle.kilim_class_attributes.specs.declared.attribute.Attribute.{Attribute}
use Rattle.kilim_class_attributes.specs.declared.attribute.CodeInfo.TheVariants.{StackMapTable}
use Rattle.kilim_class_attributes.specs.declared.attribute.Info.TheVariants as info
use Rattle.kilim_class_code.specs.declared.fault.CodeFault.TheVariants as code
use Rattle.kilim_class_file.specs.declared.class_file.ClassFile.{ClassFile}
use Rattle.kilim_class_file.specs.declared.class_file.MemberInfo.{MemberInfo}
use Rattle.kilim_class_pool.specs.declared.entry.Entry.{Entry}
use Rattle.kilim_class_pool.specs.declared.entry.Entry.TheVariants as entry
use Rattle.kilim_class_code.specs.declared.opcodes.fault.OpFault.TheVariants as op
use Rattle.kilim_program.specs.declared.class.Form.{Form}
use Rattle.kilim_program.specs.declared.class.Form.TheVariants.{Plain, Woven}
use Rattle.kilim_program.specs.declared.instr.Instr.{Instr}
use Rattle.kilim_program.specs.declared.instr.Instr.TheVariants.{Getfield, Invokevirtual, Invokespecial, Invokestatic, Aload, Pop, Return}
use Rattle.kilim_program.specs.Program.{Program}
use Rattle.kilim_program.specs.BuiltIn.{class_id, method_id}
use Rattle.kilim_link_spec.specs.declared.fault.Problem.TheVariants as problem
use Rattle.kilim_link_spec.specs.World.{field_id, world_of}
use Rattle.kilim_link_spec.specs.Linked.{program_of}
use Rattle.kilim_link_spec.specs.Mentions.{class_names}
use Rattle.kilim_link_spec.specs.Faults.{class_missing, member_missing, field_kinds, code_broken, descriptor_broken}
use Rattle.kilim_theorems.specs.link_examples.Examples.{file, object, p_name, member, code_attribute, texts, with_field, with_method, with_code, Named}
use Rattle.kilim_theorems.specs.link_examples.Details.{class_with, nothing, returns, q_name, m_name, task}

abbrev pub r_name : List ℕ
r_name = codes "R"

-- a member with its name and its descriptor at these indices
abbrev pub member_at : ℕ → ℕ → ℕ → List Attribute → MemberInfo
member_at flags name descriptor attributes = record { access_flags = flags; name_index = name; descriptor_index = descriptor; attributes = attributes }

-- ---- numbers: by the order of the files and of the members in them, and not by name

-- P with the fields `y` and `x`, and the static methods `b()V` and `a()V`
abbrev pub in_other_order : ClassFile
in_other_order =
    record (file p_name object (texts (codes "b") nothing ++ (entry.Utf8 (codes "Code") ∷ entry.Utf8 (codes "a") ∷ entry.Utf8 (codes "y") ∷ entry.Utf8 (codes "x") ∷ entry.Utf8 (codes "I") ∷ [])))
    { fields = member_at 0 9 11 [] ∷ member_at 0 10 11 [] ∷ []; methods = member_at 0x0008 5 6 returns ∷ member_at 0x0008 8 6 returns ∷ [] }

-- A with a static method `m()V`: `invokestatic P.a()V`, `return`
abbrev pub calls_a : ClassFile
calls_a =
    class_with 0x0020 (codes "A") object nothing (entry.Utf8 p_name ∷ entry.Class 8 ∷ entry.Utf8 (codes "a") ∷ entry.NameAndType 10 6 ∷ entry.Methodref 9 11 ∷ []) 0x0008
    (code_attribute (184 ∷ 0 ∷ 12 ∷ 177 ∷ []) ∷ [])

abbrev pub of_program : {A : Type 0} → (Program → A) → List ClassFile → Option A
of_program look files = option_map look (program_of files Plain)

abbrev pub classes_in_order : Type 0
classes_in_order = of_program (λ p. map (λ c. c.name) (take 3 p.classes)) (in_other_order ∷ calls_a ∷ []) ≡ Some (p_name ∷ codes "A" ∷ object ∷ [])

abbrev pub fields_in_order : Type 0
fields_in_order = of_program (λ p. map (λ f. f.name) p.fields) (in_other_order ∷ calls_a ∷ []) ≡ Some (codes "message" ∷ codes "y" ∷ codes "x" ∷ [])

abbrev pub methods_in_order : Type 0
methods_in_order = of_program (λ p. map (λ m. m.name) (take 4 p.methods)) (in_other_order ∷ calls_a ∷ []) ≡ Some (codes "b" ∷ codes "a" ∷ m_name ∷ codes "<init>" ∷ [])

-- the instructions of the last method of the files, where there are so many
abbrev pub code_of_last : ℕ → List ClassFile → Option (List (List (ℕ × Instr)))
code_of_last n files = of_program (λ p. map (λ m. m.code) (take 1 (drop n p.methods))) files

-- `a` is the second method
abbrev pub called_by_number : Type 0
called_by_number = code_of_last 2 (in_other_order ∷ calls_a ∷ []) ≡ Some (((0, Invokestatic (method_id 1)) ∷ (3, Return) ∷ []) ∷ [])

-- ---- the nearest ancestor: R extends Q extends P, and both of these have a field `x` and a method `m()V`

abbrev pub with_both : List ℕ → List ℕ → ClassFile
with_both name super =
    record (class_with 0x0020 name super nothing (entry.Utf8 (codes "x") ∷ entry.Utf8 (codes "I") ∷ []) 0x0001 returns)
    { fields = member_at 0 8 9 [] ∷ [] }

-- R, with a method `n()V`: `aload_0`, `getfield R.x`, `pop`, `aload_0`, `invokevirtual R.m()V`, `return`
abbrev pub uses_both : ClassFile
uses_both =
    with_method
    (file r_name q_name (texts (codes "n") nothing ++ (entry.Utf8 (codes "Code") ∷ entry.Utf8 (codes "x") ∷ entry.Utf8 (codes "I") ∷ entry.NameAndType 8 9 ∷ entry.Fieldref 2 10 ∷ entry.Utf8 m_name ∷ entry.NameAndType 12 6 ∷ entry.Methodref 2 13 ∷ [])))
    (member 0x0001 (code_attribute (42 ∷ 180 ∷ 0 ∷ 11 ∷ 87 ∷ 42 ∷ 182 ∷ 0 ∷ 14 ∷ 177 ∷ []) ∷ []))

abbrev pub used_code : ℕ → List (ℕ × Instr)
used_code n = (0, Aload 0) ∷ (1, Getfield (field_id (suc n))) ∷ (4, Pop) ∷ (5, Aload 0) ∷ (6, Invokevirtual (method_id n)) ∷ (9, Return) ∷ []

-- Q is the second class
abbrev pub nearest_of_two : Type 0
nearest_of_two = code_of_last 2 (with_both p_name object ∷ with_both q_name p_name ∷ uses_both ∷ []) ≡ Some (used_code 1 ∷ [])

-- it is the first class, and R the second, which names it and P before they are given
abbrev pub nearest_in_any_order : Type 0
nearest_in_any_order = of_program (λ p. map (λ m. m.code) (take 2 p.methods)) (with_both q_name p_name ∷ uses_both ∷ with_both p_name object ∷ []) ≡ Some (((0, Return) ∷ []) ∷ used_code 0 ∷ [])

-- ---- what is found: a class with a static method `n()V`, where index 13 names a method

abbrev pub with_called : List ℕ → List ℕ → List ℕ → List ℕ → List ℕ → List ℕ → ClassFile
with_called name super bytes owner called descriptor =
    with_method
    (file name super (texts (codes "n") nothing ++ (entry.Utf8 (codes "Code") ∷ entry.Utf8 owner ∷ entry.Class 8 ∷ entry.Utf8 called ∷ entry.Utf8 descriptor ∷ entry.NameAndType 10 11 ∷ entry.Methodref 9 12 ∷ [])))
    (member 0x0008 (code_attribute bytes ∷ []))

-- the instruction of this number that calls it, and `return`
abbrev pub calls : List ℕ → List ℕ → ℕ → List ℕ → List ℕ → List ℕ → ClassFile
calls name super number owner called descriptor = with_called name super (number ∷ 0 ∷ 13 ∷ 177 ∷ []) owner called descriptor

abbrev pub one_instr : Instr → List (List (ℕ × Instr))
one_instr instr = ((0, instr) ∷ (3, Return) ∷ []) ∷ []

-- a private method of the superclass
abbrev pub private_is_found : Type 0
private_is_found = code_of_last 1 (class_with 0x0020 q_name object nothing [] 0x0002 returns ∷ calls p_name q_name 182 p_name m_name nothing ∷ []) ≡ Some (one_instr (Invokevirtual (method_id 0)))

-- a class without a constructor has that of `java/lang/Object`, and so has `kilim/Sys`
abbrev pub constructor_is_found : Type 0
constructor_is_found = code_of_last 0 (calls p_name object 183 p_name (codes "<init>") nothing ∷ []) ≡ Some (one_instr (Invokespecial (method_id 1)))

abbrev pub constructor_of_sys : Type 0
constructor_of_sys = code_of_last 0 (calls p_name object 183 (codes "kilim/Sys") (codes "<init>") nothing ∷ []) ≡ Some (one_instr (Invokespecial (method_id 1)))

-- a static method, by an instruction that calls others: the verifier refuses that
abbrev pub static_is_found : Type 0
static_is_found = code_of_last 0 (calls p_name object 182 (codes "kilim/Sys") (codes "yield") nothing ∷ []) ≡ Some (one_instr (Invokevirtual (method_id 17)))

-- by name and by descriptor
abbrev pub other_descriptor : Type 0
other_descriptor = Named (calls p_name object 184 (codes "kilim/Sys") (codes "print") (codes "(Z)V") ∷ []) p_name (problem.NoMember (record { owner = codes "kilim/Sys"; name = codes "print"; descriptor = codes "(Z)V" }))

abbrev pub left_out_member : Type 0
left_out_member = Named (calls p_name object 182 object (codes "hashCode") (codes "()I") ∷ []) p_name (problem.NoMember (record { owner = object; name = codes "hashCode"; descriptor = codes "()I" }))

-- `getfield P.xI` where P has `x` of type long
abbrev pub other_field : Type 0
other_field =
    Named (with_field (with_code (180 ∷ 0 ∷ 11 ∷ 177 ∷ []) (entry.Utf8 (codes "x") ∷ entry.Utf8 (codes "I") ∷ entry.NameAndType 8 9 ∷ entry.Fieldref 2 10 ∷ entry.Utf8 (codes "J") ∷ [])) (member_at 0 8 12 []) ∷ []) p_name
    (problem.NoMember (record { owner = p_name; name = codes "x"; descriptor = codes "I" }))

-- ---- a class that isn't there, at each place

abbrev pub x_name : List ℕ
x_name = codes "X"

abbrev pub missing_interface : Type 0
missing_interface = Named (record (file p_name object (entry.Utf8 x_name ∷ entry.Class 5 ∷ [])) { interfaces = 6 ∷ [] } ∷ []) p_name (problem.Missing x_name)

abbrev pub missing_in_field : Type 0
missing_in_field = Named (with_field (file p_name object (texts m_name (codes "[LX;"))) (member 0 []) ∷ []) p_name (problem.Missing x_name)

abbrev pub missing_in_method : Type 0
missing_in_method = Named (class_with 0x0420 p_name object (codes "(ILX;)V") [] 0x0401 [] ∷ []) p_name (problem.Missing x_name)

abbrev pub missing_in_result : Type 0
missing_in_result = Named (class_with 0x0420 p_name object (codes "()LX;") [] 0x0401 [] ∷ []) p_name (problem.Missing x_name)

-- before the member that isn't there either
abbrev pub missing_owner : Type 0
missing_owner = Named (calls p_name object 184 x_name m_name nothing ∷ []) p_name (problem.Missing x_name)

abbrev pub missing_array_owner : Type 0
missing_array_owner = Named (calls p_name object 182 (codes "[LX;") m_name nothing ∷ []) p_name (problem.Missing x_name)

abbrev pub missing_in_called : Type 0
missing_in_called = Named (calls p_name object 184 (codes "kilim/Sys") (codes "print") (codes "(LX;)V") ∷ []) p_name (problem.Missing x_name)

-- `new`, `anewarray`, `checkcast`, `instanceof`
abbrev pub names_class : ℕ → ClassFile
names_class number = with_code (number ∷ 0 ∷ 9 ∷ 177 ∷ []) (entry.Utf8 x_name ∷ entry.Class 8 ∷ [])

abbrev pub missing_new : Type 0
missing_new = Named (names_class 187 ∷ []) p_name (problem.Missing x_name)

abbrev pub missing_elements : Type 0
missing_elements = Named (names_class 189 ∷ []) p_name (problem.Missing x_name)

abbrev pub missing_cast : Type 0
missing_cast = Named (names_class 192 ∷ []) p_name (problem.Missing x_name)

abbrev pub missing_instance : Type 0
missing_instance = Named (names_class 193 ∷ []) p_name (problem.Missing x_name)

-- ---- the first place: each name stands in the order of the file's bytes

-- code with these frames
abbrev pub framed : List ℕ → List FrameForm → Attribute
framed bytes frames =
    record { attribute_name_index = 12; info = info.Code (record { max_stack = 0; max_locals = 0; code = bytes; exception_table = []; attributes = record { attribute_name_index = 12; info = StackMapTable frames } ∷ [] }) }

abbrev pub many_names : List Entry
many_names =
    entry.Utf8 (codes "I1") ∷ entry.Class 5
    ∷ entry.Utf8 (codes "f") ∷ entry.Utf8 (codes "LF1;") ∷ entry.Utf8 (codes "[[LF2;")
    ∷ entry.Utf8 m_name ∷ entry.Utf8 (codes "(LA1;ILA2;)LA3;") ∷ entry.Utf8 (codes "Code")
    ∷ entry.Utf8 (codes "O1") ∷ entry.Class 13 ∷ entry.Utf8 (codes "(LB1;)LB2;") ∷ entry.NameAndType 10 15 ∷ entry.Methodref 14 16
    ∷ entry.Utf8 (codes "O2") ∷ entry.Class 18 ∷ entry.Utf8 (codes "LB3;") ∷ entry.NameAndType 7 20 ∷ entry.Fieldref 19 21
    ∷ entry.Utf8 (codes "N") ∷ entry.Class 23 ∷ entry.Utf8 (codes "[LE;") ∷ entry.Class 25 ∷ entry.Utf8 (codes "D") ∷ entry.Class 27
    ∷ entry.Utf8 (codes "V1") ∷ entry.Class 29 ∷ entry.Utf8 (codes "V2") ∷ entry.Class 31 ∷ entry.Utf8 (codes "[LV3;") ∷ entry.Class 33 ∷ entry.Utf8 (codes "V4") ∷ entry.Class 35
    ∷ entry.Utf8 (codes "()LA4;") ∷ entry.Utf8 nothing
    ∷ []

-- P extends S, lists I1, has two fields and two methods; the code of the first one is `invokestatic O1.m(LB1;)LB2;`,
-- `getstatic O2.fLB3;`, `new N`, `checkcast [LE;`, `anewarray D`, `return`, with three frames
abbrev pub names_many : ClassFile
names_many =
    record (file p_name (codes "S") many_names) {
      interfaces = 6 ∷ [];
      fields = member_at 0 7 8 [] ∷ member_at 0 7 9 [] ∷ [];
      methods =
          member_at 0x0008 10 11 (framed (184 ∷ 0 ∷ 17 ∷ 178 ∷ 0 ∷ 22 ∷ 187 ∷ 0 ∷ 24 ∷ 192 ∷ 0 ∷ 26 ∷ 189 ∷ 0 ∷ 28 ∷ 177 ∷ []) (form.Append 0 (slot.Object 30 ∷ []) ∷ form.Full 0 (slot.Object 32 ∷ []) (slot.Object 34 ∷ []) ∷ form.SameLocals1StackItem 0 (slot.Object 36) ∷ []) ∷ [])
          ∷ member_at 0x0401 10 37 [] ∷ [];
    }

abbrev pub missing_by_place : Type 0
missing_by_place =
    class_missing (world_of (names_many ∷ []) Plain) names_many (class_id 0)
    ≡ map problem.Missing (
    codes "S" ∷ codes "I1" ∷ codes "F1" ∷ codes "F2" ∷ codes "A1" ∷ codes "A2" ∷ codes "A3" ∷ codes "O1" ∷ codes "B1" ∷ codes "B2" ∷ codes "O2" ∷ codes "B3"
    ∷ codes "N" ∷ codes "E" ∷ codes "D" ∷ codes "V1" ∷ codes "V2" ∷ codes "V3" ∷ codes "V4" ∷ codes "A4" ∷ [])

abbrev pub first_of_two : Type 0
first_of_two = Named (names_many ∷ []) p_name (problem.Missing (codes "S"))

-- the owner before the descriptor
abbrev pub owner_before_descriptor : Type 0
owner_before_descriptor = Named (calls p_name object 184 x_name m_name (codes "(LY;)V") ∷ []) p_name (problem.Missing x_name)

-- ---- what names nothing: an exception that is listed, an entry of an exception table that catches everything, an annotation's type, an
-- entry that nothing refers to; and one that catches a class, which names it

-- by what the entry of its exception table catches
abbrev pub catching : ℕ → ClassFile
catching catch =
    class_with 0x0020 p_name object nothing (entry.Utf8 x_name ∷ entry.Class 8 ∷ entry.Utf8 (codes "LX;") ∷ []) 0x0008
    (record { attribute_name_index = 7; info = info.Code (record { max_stack = 0; max_locals = 0; code = 177 ∷ []; exception_table = record { start_pc = 0; end_pc = 1; handler_pc = 0; catch_type = catch } ∷ []; attributes = [] }) }
    ∷ record { attribute_name_index = 5; info = info.Exceptions (9 ∷ []) }
    ∷ record { attribute_name_index = 5; info = info.RuntimeVisibleAnnotations (Annotations 1 ∷ Annotation 10 0 ∷ []) } ∷ [])

abbrev pub none_is_named : Type 0
none_is_named = class_names (catching 0) ≡ object ∷ []

abbrev pub caught_is_named : Type 0
caught_is_named = class_names (catching 9) ≡ object ∷ x_name ∷ []

-- code that falls off its end; the frames of such code name classes
abbrev pub broken_code : Type 0
broken_code = Named (with_called p_name object (184 ∷ 0 ∷ 13 ∷ []) x_name m_name nothing ∷ []) p_name (problem.Code (record { name = codes "n"; descriptor = nothing }) (code.FallsOff 0))

abbrev pub broken_code_with_frames : Type 0
broken_code_with_frames =
    Named (with_method (file p_name object many_names) (member_at 0x0008 10 38 (framed (184 ∷ 0 ∷ 17 ∷ []) (form.Append 0 (slot.Object 30 ∷ []) ∷ []) ∷ [])) ∷ []) p_name (problem.Missing (codes "V1"))

-- `getfield` with the index of a method names nothing, the `invokestatic` behind it does
abbrev pub index_of_wrong_kind : Type 0
index_of_wrong_kind =
    let f = with_method (file p_name object many_names) (member_at 0x0008 10 38 (framed (180 ∷ 0 ∷ 17 ∷ 184 ∷ 0 ∷ 22 ∷ 184 ∷ 0 ∷ 17 ∷ 177 ∷ []) [] ∷ [])) in
    class_names f ≡ object ∷ codes "O1" ∷ codes "B1" ∷ codes "B2" ∷ []

-- the first class with a fault is named, also where a later one has a fault of an earlier kind
abbrev pub first_class_first : Type 0
first_class_first = Named (file (codes "a//b") object [] ∷ file p_name x_name [] ∷ []) (codes "a//b") problem.Name

-- ---- the first place of other kinds

-- the members that code names, in its order; an owner that isn't there lacks each
abbrev pub members_by_place : Type 0
members_by_place =
    member_missing (world_of (names_many ∷ []) Plain) names_many (class_id 0)
    ≡ problem.NoMember (record { owner = codes "O1"; name = m_name; descriptor = codes "(LB1;)LB2;" })
    ∷ problem.NoMember (record { owner = codes "O2"; name = codes "f"; descriptor = codes "LB3;" }) ∷ []

-- P with two fields, which are none, and two methods; the code of the first one is `invokestatic P.m` of what is none,
-- `checkcast` of an array that is none, `return`, with a frame of another one
abbrev pub malformed : ClassFile
malformed =
    record (file p_name object (texts m_name (codes "Q1") ++ (entry.Utf8 (codes "Code") ∷ entry.Utf8 (codes "Q2") ∷ entry.Utf8 (codes "(Q)V") ∷ entry.Utf8 (codes "()D;") ∷ entry.NameAndType 5 10 ∷ entry.Methodref 2 11 ∷ entry.Utf8 (codes "[V") ∷ entry.Class 13 ∷ entry.Utf8 (codes "[E") ∷ entry.Class 15 ∷ entry.Utf8 (codes "(F") ∷ []))) {
      fields = member_at 0 5 6 [] ∷ member_at 0 5 8 [] ∷ [];
      methods = member_at 0x0008 5 9 (framed (184 ∷ 0 ∷ 12 ∷ 192 ∷ 0 ∷ 14 ∷ 177 ∷ []) (form.Append 0 (slot.Object 16 ∷ []) ∷ []) ∷ []) ∷ member_at 0x0401 5 17 [] ∷ [];
    }

abbrev pub descriptors_by_place : Type 0
descriptors_by_place =
    descriptor_broken (world_of (malformed ∷ []) Plain) malformed (class_id 0)
    ≡ map problem.Descriptor (codes "Q1" ∷ codes "Q2" ∷ codes "(Q)V" ∷ codes "()D;" ∷ codes "[V" ∷ codes "[E" ∷ codes "(F" ∷ [])

-- a task with three fields, the second one an int and the others of a private type, and with three methods, of which
-- the first and the last have code that fails
abbrev pub fails_often : ClassFile
fails_often =
    record (file p_name task (texts m_name object ++ (entry.Utf8 (codes "n") ∷ entry.Utf8 (codes "Ljava/lang/Object;") ∷ entry.Utf8 (codes "I") ∷ entry.Utf8 (codes "o") ∷ entry.Utf8 nothing ∷ []))) {
      fields = member_at 0 7 8 [] ∷ member_at 0 5 9 [] ∷ member_at 0 10 8 [] ∷ [];
      methods = member_at 0x0008 7 11 (framed (0 ∷ []) [] ∷ []) ∷ member_at 0x0008 5 11 returns ∷ member_at 0x0008 10 11 (framed (202 ∷ []) [] ∷ []) ∷ [];
    }

abbrev pub fields_by_place : Type 0
fields_by_place =
    field_kinds (world_of (fails_often ∷ []) Plain) fails_often (class_id 0)
    ≡ problem.FieldKind (record { name = codes "n"; descriptor = codes "Ljava/lang/Object;" }) ∷ problem.FieldKind (record { name = codes "o"; descriptor = codes "Ljava/lang/Object;" }) ∷ []

abbrev pub code_by_place : Type 0
code_by_place =
    code_broken (world_of (fails_often ∷ []) Plain) fails_often (class_id 0)
    ≡ problem.Code (record { name = codes "n"; descriptor = nothing }) (code.FallsOff 0) ∷ problem.Code (record { name = codes "o"; descriptor = nothing }) (code.Op (op.Unknown 202) 0) ∷ []

-- ---- the built-in members by name and descriptor, as code names them

abbrev pub built_in_members : Form → List (List ℕ × List (List ℕ))
built_in_members form = map (λ v. (v.name, map (λ m. m.name ++ m.descriptor) v.methods)) (world_of [] form).classes

-- the classes of exceptions below `java/lang/Throwable` have two constructors each, and no other method
abbrev pub constructors : List (List ℕ)
constructors = codes "<init>()V" ∷ codes "<init>(Ljava/lang/String;)V" ∷ []

abbrev pub with_constructors : List ℕ → List ℕ × List (List ℕ)
with_constructors name = (name, constructors)

abbrev pub plain_members : Type 0
plain_members =
    built_in_members Plain
    ≡ (object, codes "<init>()V" ∷ [])
    ∷ (codes "java/lang/String", codes "length()I" ∷ codes "charAt(I)C" ∷ codes "equals(Ljava/lang/Object;)Z" ∷ [])
    ∷ (codes "kilim/Message", [])
    ∷ (codes "kilim/Pausable", [])
    ∷ (task, codes "<init>()V" ∷ codes "start()V" ∷ codes "execute()V" ∷ [])
    ∷ (codes "kilim/Mailbox", codes "<init>()V" ∷ codes "<init>(I)V" ∷ codes "put(Lkilim/Message;)V" ∷ codes "putw(Lkilim/Message;)V" ∷ codes "get()Lkilim/Message;" ∷ codes "getnb()Lkilim/Message;" ∷ [])
    ∷ (codes "kilim/Sys", codes "print(I)V" ∷ codes "print(J)V" ∷ codes "print(Ljava/lang/String;)V" ∷ codes "yield()V" ∷ codes "argCount()I" ∷ codes "arg(I)I" ∷ codes "take([Lkilim/Message;I)Lkilim/Message;" ∷ [])
    ∷ (codes "java/lang/Throwable", constructors ++ codes "getMessage()Ljava/lang/String;" ∷ [])
    ∷ with_constructors (codes "java/lang/Exception")
    ∷ with_constructors (codes "java/lang/RuntimeException")
    ∷ with_constructors (codes "java/lang/ArithmeticException")
    ∷ with_constructors (codes "java/lang/NullPointerException")
    ∷ with_constructors (codes "java/lang/NegativeArraySizeException")
    ∷ with_constructors (codes "java/lang/ClassCastException")
    ∷ with_constructors (codes "java/lang/ArrayStoreException")
    ∷ with_constructors (codes "java/lang/IndexOutOfBoundsException")
    ∷ with_constructors (codes "java/lang/ArrayIndexOutOfBoundsException")
    ∷ with_constructors (codes "java/lang/StringIndexOutOfBoundsException")
    ∷ []

abbrev pub woven_members : Type 0
woven_members =
    built_in_members Woven
    ≡ (object, codes "<init>()V" ∷ [])
    ∷ (codes "java/lang/String", codes "length()I" ∷ codes "charAt(I)C" ∷ codes "equals(Ljava/lang/Object;)Z" ∷ [])
    ∷ (codes "kilim/Message", [])
    ∷ (codes "kilim/Pausable", [])
    ∷ (task, codes "<init>()V" ∷ codes "start()V" ∷ codes "execute(Lkilim/Fiber;)V" ∷ [])
    ∷ (codes "kilim/Mailbox", codes "<init>()V" ∷ codes "<init>(I)V" ∷ codes "put(Lkilim/Message;)V" ∷ codes "putw(Lkilim/Message;Lkilim/Fiber;)V" ∷ codes "get(Lkilim/Fiber;)Lkilim/Message;" ∷ codes "getnb()Lkilim/Message;" ∷ [])
    ∷ (codes "kilim/Sys", codes "print(I)V" ∷ codes "print(J)V" ∷ codes "print(Ljava/lang/String;)V" ∷ codes "yield(Lkilim/Fiber;)V" ∷ codes "argCount()I" ∷ codes "arg(I)I" ∷ codes "take([Lkilim/Message;I)Lkilim/Message;" ∷ [])
    ∷ (codes "java/lang/Throwable", constructors ++ codes "getMessage()Ljava/lang/String;" ∷ [])
    ∷ with_constructors (codes "java/lang/Exception")
    ∷ with_constructors (codes "java/lang/RuntimeException")
    ∷ with_constructors (codes "java/lang/ArithmeticException")
    ∷ with_constructors (codes "java/lang/NullPointerException")
    ∷ with_constructors (codes "java/lang/NegativeArraySizeException")
    ∷ with_constructors (codes "java/lang/ClassCastException")
    ∷ with_constructors (codes "java/lang/ArrayStoreException")
    ∷ with_constructors (codes "java/lang/IndexOutOfBoundsException")
    ∷ with_constructors (codes "java/lang/ArrayIndexOutOfBoundsException")
    ∷ with_constructors (codes "java/lang/StringIndexOutOfBoundsException")
    ∷ (
      codes "kilim/Fiber",
      codes "pc()I" ∷ codes "down()Lkilim/Fiber;" ∷ codes "up()I" ∷ codes "saveI(ILkilim/Fiber;)V" ∷ codes "saveJ(JLkilim/Fiber;)V" ∷ codes "saveA(Ljava/lang/Object;Lkilim/Fiber;)V"
          ∷ codes "place(ILjava/lang/Object;Lkilim/Fiber;)V" ∷ codes "restI()I" ∷ codes "restJ()J" ∷ codes "restA()Ljava/lang/Object;" ∷ codes "receiver()Ljava/lang/Object;" ∷ [],
    )
    ∷ []

pub record SearchesHold : Type 0 where
  pub has_classes_in_order : classes_in_order
  pub has_fields_in_order : fields_in_order
  pub has_methods_in_order : methods_in_order
  pub has_called_by_number : called_by_number
  pub has_nearest_of_two : nearest_of_two
  pub has_nearest_in_any_order : nearest_in_any_order
  pub has_private_is_found : private_is_found
  pub has_constructor_is_found : constructor_is_found
  pub has_constructor_of_sys : constructor_of_sys
  pub has_static_is_found : static_is_found
  pub has_other_descriptor : other_descriptor
  pub has_left_out_member : left_out_member
  pub has_other_field : other_field
  pub has_missing_interface : missing_interface
  pub has_missing_in_field : missing_in_field
  pub has_missing_in_method : missing_in_method
  pub has_missing_in_result : missing_in_result
  pub has_missing_owner : missing_owner
  pub has_missing_array_owner : missing_array_owner
  pub has_missing_in_called : missing_in_called
  pub has_missing_new : missing_new
  pub has_missing_elements : missing_elements
  pub has_missing_cast : missing_cast
  pub has_missing_instance : missing_instance
  pub has_missing_by_place : missing_by_place
  pub has_first_of_two : first_of_two
  pub has_owner_before_descriptor : owner_before_descriptor
  pub has_none_is_named : none_is_named
  pub has_caught_is_named : caught_is_named
  pub has_broken_code : broken_code
  pub has_broken_code_with_frames : broken_code_with_frames
  pub has_index_of_wrong_kind : index_of_wrong_kind
  pub has_first_class_first : first_class_first
  pub has_members_by_place : members_by_place
  pub has_descriptors_by_place : descriptors_by_place
  pub has_fields_by_place : fields_by_place
  pub has_code_by_place : code_by_place
  pub has_plain_members : plain_members
  pub has_woven_members : woven_members
