-- More examples: members declared twice, what is left out, who implements and overrides what, kinds, names, frames and
-- qualifiers.
use Rattle.std.specs.Prelude.{◌≡◌, ℕ, pos, List, [], ◌∷◌, ◌++◌, replicate, Some, None, codes}
use Rattle.kilim_class_attributes.specs.declared.parts.annotation.AnnotationPart.{AnnotationPart}
use Rattle.kilim_class_attributes.specs.declared.parts.annotation.AnnotationPart.TheVariants.{Parameters, Annotations, Annotation, ElementName, Constant, Nested, Array}
use Rattle.kilim_class_attributes.specs.declared.parts.frame.Frame.{Frame as FrameForm}
use Rattle.kilim_class_attributes.specs.declared.parts.frame.Frame.TheVariants as form
use Rattle.kilim_class_attributes.specs.declared.parts.frame.VerificationType.TheVariants as slot
use Rattle.kilim_class_attributes.specs.declared.attribute.Attribute.{Attribute}
use Rattle.kilim_class_attributes.specs.declared.attribute.Code.{Code}
use Rattle.kilim_class_attributes.specs.declared.attribute.CodeInfo.TheVariants.{StackMapTable}
use Rattle.kilim_class_attributes.specs.declared.attribute.Info.TheVariants as info
use Rattle.kilim_class_code.specs.declared.fault.CodeFault.TheVariants as code
use Rattle.kilim_class_file.specs.declared.class_file.ClassFile.{ClassFile}
use Rattle.kilim_class_pool.specs.declared.entry.Entry.{Entry}
use Rattle.kilim_class_pool.specs.declared.entry.Entry.TheVariants as entry
use Rattle.kilim_class_code.specs.declared.opcodes.fault.OpFault.TheVariants as op
use Rattle.kilim_program.specs.declared.class.Form.{Form}
use Rattle.kilim_program.specs.declared.class.Form.TheVariants.{Plain, Woven}
use Rattle.kilim_program.specs.declared.ty.Base.TheVariants as base
use Rattle.kilim_program.specs.declared.ty.Qualifier.TheVariants.{Free, Cuttable, Safe}
use Rattle.kilim_program.specs.declared.verified.Frame.{Frame}
use Rattle.kilim_program.specs.declared.verified.VType.TheVariants.{Top, Int, Long, UninitThis, Object}
use Rattle.kilim_program.specs.BuiltIn.{class_id}
use Rattle.kilim_link_spec.specs.declared.fault.LeftOutPart.TheVariants as part
use Rattle.kilim_link_spec.specs.declared.fault.LinkFault.TheVariants as fault
use Rattle.kilim_link_spec.specs.declared.fault.Problem.{Problem}
use Rattle.kilim_link_spec.specs.declared.fault.Problem.TheVariants as problem
use Rattle.kilim_link_spec.specs.World.{world_of, declared_method}
use Rattle.kilim_link_spec.specs.Types.{typed}
use Rattle.kilim_link_spec.specs.declared.named.Qualified.{Qualified}
use Rattle.kilim_link_spec.specs.Qualified.{qualified}
use Rattle.kilim_link_spec.specs.Frames.{frames_in}
use Rattle.kilim_link_spec.specs.Faults.{first_fault}
use Rattle.kilim_theorems.specs.link_examples.Examples.{file_with, file, object, p_name, member, code_attribute, texts, with_field, with_method, with_code, Named}

abbrev pub task : List ℕ
task = codes "kilim/Task"

abbrev pub q_name : List ℕ
q_name = codes "Q"

abbrev pub m_name : List ℕ
m_name = codes "m"

abbrev pub Fits : List ClassFile → Form → Type 0
Fits files form = first_fault files form ≡ None

abbrev pub NamedIn : Form → List ClassFile → List ℕ → Problem → Type 0
NamedIn form files name p = first_fault files form ≡ Some (fault.InClass name p)

abbrev pub LeftOutOf : List ClassFile → Problem → Type 0
LeftOutOf files p = Named files p_name p

-- a class with a method `m` of that descriptor, with these flags and attributes; its pool goes on with these entries
abbrev pub class_with : ℕ → List ℕ → List ℕ → List ℕ → List Entry → ℕ → List Attribute → ClassFile
class_with class_flags name super descriptor more flags attributes =
    with_method (file_with class_flags name super (texts m_name descriptor ++ (entry.Utf8 (codes "Code") ∷ more))) (member flags attributes)

-- `return` alone
abbrev pub returns : List Attribute
returns = code_attribute (177 ∷ []) ∷ []

abbrev pub nothing : List ℕ
nothing = codes "()V"

-- ---- declared twice

abbrev pub method_twice : Type 0
method_twice =
    let p = with_code (177 ∷ []) [] in Named (record p { methods = p.methods ++ p.methods } ∷ []) p_name (problem.Twice m_name)

-- ---- left out

-- an abstract class with an abstract method that is handed the fiber
abbrev pub with_fiber : ClassFile
with_fiber = class_with 0x0420 p_name object (codes "(Lkilim/Fiber;)V") [] 0x0401 []

abbrev pub fiber_plain : Type 0
fiber_plain = LeftOutOf (with_fiber ∷ []) (problem.LeftOut part.Fiber)

abbrev pub fiber_woven : Type 0
fiber_woven = Fits (with_fiber ∷ []) Woven

abbrev pub fiber_given : Type 0
fiber_given = Named (file (codes "kilim/Fiber") object [] ∷ []) (codes "kilim/Fiber") (problem.LeftOut part.Fiber)

abbrev pub fiber_given_woven : Type 0
fiber_given_woven = NamedIn Woven (file (codes "kilim/Fiber") object [] ∷ []) (codes "kilim/Fiber") (problem.Twice (codes "kilim/Fiber"))

-- `iconst_0`, `anewarray kilim/Task`, `pop`, `return`
abbrev pub task_array : Type 0
task_array = LeftOutOf (with_code (3 ∷ 189 ∷ 0 ∷ 9 ∷ 87 ∷ 177 ∷ []) (entry.Utf8 task ∷ entry.Class 8 ∷ []) ∷ []) (problem.LeftOut part.TaskArray)

abbrev pub float_argument : Type 0
float_argument = LeftOutOf (class_with 0x0420 p_name object (codes "(F)V") [] 0x0401 [] ∷ []) (problem.LeftOut part.Float)

abbrev pub initializer : Type 0
initializer = LeftOutOf (with_method (file p_name object (texts (codes "<clinit>") nothing ++ (entry.Utf8 (codes "Code") ∷ []))) (member 0x0008 returns) ∷ []) (problem.LeftOut part.ClassInitializer)

abbrev pub synchronized : Type 0
synchronized = LeftOutOf (class_with 0x0020 p_name object nothing [] 0x0028 returns ∷ []) (problem.LeftOut part.Synchronized)

abbrev pub native : Type 0
native = LeftOutOf (class_with 0x0020 p_name object nothing [] 0x0108 [] ∷ []) (problem.LeftOut part.Native)

abbrev pub an_interface : Type 0
an_interface = LeftOutOf (file_with 0x0600 p_name object [] ∷ []) (problem.LeftOut part.Interface)

-- a method that pauses, with an exception table
abbrev pub handlers : Type 0
handlers =
    let attribute : Attribute = record {
      attribute_name_index = 7;
      info = info.Code (record { max_stack = 0; max_locals = 0; code = 177 ∷ []; exception_table = record { start_pc = 0; end_pc = 1; handler_pc = 0; catch_type = 0 } ∷ []; attributes = [] });
    } in
    let pauses : Attribute = record { attribute_name_index = 10; info = info.Exceptions (9 ∷ []) } in
    LeftOutOf (class_with 0x0020 p_name object nothing (entry.Utf8 (codes "kilim/Pausable") ∷ entry.Class 8 ∷ entry.Utf8 (codes "Exceptions") ∷ []) 0x0008 (attribute ∷ pauses ∷ []) ∷ [])
    (problem.LeftOut part.PausableHandlers)

abbrev pub pausable_constructor : Type 0
pausable_constructor =
    LeftOutOf (with_method (file p_name object (texts (codes "<init>") nothing ++ (entry.Utf8 (codes "Code") ∷ entry.Utf8 (codes "kilim/Pausable") ∷ entry.Class 8 ∷ entry.Utf8 (codes "Exceptions") ∷ []))) (member 0 (returns ++ record { attribute_name_index = 10; info = info.Exceptions (9 ∷ []) } ∷ [])) ∷ [])
    (problem.LeftOut part.PausableConstructor)

-- a static field `m` of type int without a constant, and with 5
abbrev pub static_field : List Attribute → ClassFile
static_field attributes = with_field (file p_name object (texts m_name (codes "I") ++ (entry.Integer (pos 5) ∷ entry.Long (pos 5) ∷ []))) (member 0x0008 attributes)

abbrev pub constant : ℕ → List Attribute
constant index = record { attribute_name_index = 5; info = info.ConstantValue index } ∷ []

abbrev pub no_constant : Type 0
no_constant = LeftOutOf (static_field [] ∷ []) (problem.LeftOut part.StaticField)

abbrev pub other_constant : Type 0
other_constant = LeftOutOf (static_field (constant 8) ∷ []) (problem.LeftOut part.StaticField)

abbrev pub its_constant : Type 0
its_constant = Fits (static_field (constant 7) ∷ []) Plain

-- annotations on one parameter, and a descriptor without parameters
abbrev pub other_parameters : Type 0
other_parameters =
    LeftOutOf (class_with 0x0020 p_name object nothing [] 0x0008 (returns ++ record { attribute_name_index = 5; info = info.RuntimeVisibleParameterAnnotations (Parameters 1 ∷ Annotations 0 ∷ []) } ∷ []) ∷ [])
    (problem.LeftOut part.ParameterAnnotations)

-- ---- members

-- `invokestatic [I.m()V`
abbrev pub array_owner : Type 0
array_owner =
    Named (with_code (184 ∷ 0 ∷ 11 ∷ 177 ∷ []) (entry.Utf8 (codes "[I") ∷ entry.Class 8 ∷ entry.NameAndType 5 6 ∷ entry.Methodref 9 10 ∷ []) ∷ []) p_name
    (problem.NoMember (record { owner = codes "[I"; name = m_name; descriptor = nothing }))

-- `invokestatic kilim/Fiber.m()V` is left out in plain form, and in woven form there is no such member
abbrev pub calls_fiber : ClassFile
calls_fiber = with_code (184 ∷ 0 ∷ 11 ∷ 177 ∷ []) (entry.Utf8 (codes "kilim/Fiber") ∷ entry.Class 8 ∷ entry.NameAndType 5 6 ∷ entry.Methodref 9 10 ∷ [])

abbrev pub fiber_owner : Type 0
fiber_owner = LeftOutOf (calls_fiber ∷ []) (problem.LeftOut part.Fiber)

abbrev pub fiber_owner_woven : Type 0
fiber_owner_woven = NamedIn Woven (calls_fiber ∷ []) p_name (problem.NoMember (record { owner = codes "kilim/Fiber"; name = m_name; descriptor = nothing }))

-- a method of an interface: `invokestatic` takes it and finds its own method, `invokevirtual` doesn't take it
abbrev pub of_interface : ℕ → ClassFile
of_interface number = with_code (number ∷ 0 ∷ 9 ∷ 177 ∷ []) (entry.NameAndType 5 6 ∷ entry.InterfaceMethodref 2 8 ∷ [])

abbrev pub static_of_interface : Type 0
static_of_interface = Fits (of_interface 184 ∷ []) Plain

abbrev pub virtual_of_interface : Type 0
virtual_of_interface = Named (of_interface 182 ∷ []) p_name (problem.Code (record { name = m_name; descriptor = nothing }) (code.Op (op.Unknown 182) 0))

-- `ldc` of a class
abbrev pub class_constant : Type 0
class_constant = Named (with_code (18 ∷ 2 ∷ 177 ∷ []) [] ∷ []) p_name (problem.Code (record { name = m_name; descriptor = nothing }) (code.Op (op.Unknown 18) 0))

-- ---- overriding and implementing

-- Q with a method `m()V`, and P that extends Q with one
abbrev pub pair : ℕ → ℕ → List Attribute → ℕ → List Attribute → List ClassFile
pair q_class q_flags q_attributes p_flags p_attributes =
    class_with q_class q_name object nothing [] q_flags q_attributes ∷ class_with 0x0020 p_name q_name nothing [] p_flags p_attributes ∷ []

abbrev pub overridden : Type 0
overridden = Fits (pair 0x0020 0x0001 returns 0x0001 returns) Plain

abbrev pub final_overridden : Type 0
final_overridden = Named (pair 0x0020 0x0011 returns 0x0001 returns) p_name (problem.OverrideDiffers (record { name = m_name; descriptor = nothing }))

abbrev pub static_overridden : Type 0
static_overridden = Named (pair 0x0020 0x0001 returns 0x0009 returns) p_name (problem.OverrideDiffers (record { name = m_name; descriptor = nothing }))

-- a private method overrides nothing
abbrev pub private_overridden : Type 0
private_overridden = Fits (pair 0x0020 0x0001 returns 0x000A returns) Plain

abbrev pub implemented : Type 0
implemented = Fits (pair 0x0420 0x0401 [] 0x0001 returns) Plain

-- nor does it implement an abstract one
abbrev pub private_implements : Type 0
private_implements = Named (pair 0x0420 0x0401 [] 0x0002 returns) p_name (problem.AbstractLeft (record { name = m_name; descriptor = nothing }))

abbrev pub inherited_abstract : Type 0
inherited_abstract = Named (class_with 0x0420 q_name object nothing [] 0x0401 [] ∷ file p_name q_name [] ∷ []) p_name (problem.AbstractLeft (record { name = m_name; descriptor = nothing }))

-- an abstract method that is static, in an abstract class
abbrev pub abstract_static : Type 0
abstract_static = Named (class_with 0x0420 p_name object nothing [] 0x0408 [] ∷ []) p_name (problem.AbstractLeft (record { name = m_name; descriptor = nothing }))

-- ---- kinds

abbrev pub final_super : Type 0
final_super = Named (file_with 0x0030 q_name object [] ∷ file p_name q_name [] ∷ []) p_name problem.SuperKind

abbrev pub message : List ℕ → List ℕ → ClassFile
message name super = record (file name super (entry.Utf8 (codes "kilim/Message") ∷ entry.Class 5 ∷ [])) { interfaces = 6 ∷ 6 ∷ [] }

-- a message that extends a private class, and a class that extends a message
abbrev pub private_super : Type 0
private_super = Named (file q_name object [] ∷ message p_name q_name ∷ []) p_name problem.SuperKind

abbrev pub message_super : Type 0
message_super = Fits (message q_name object ∷ file p_name q_name [] ∷ []) Plain

abbrev pub built_in_super : Type 0
built_in_super = Named (file p_name (codes "kilim/Message") [] ∷ []) p_name problem.SuperKind

-- a field `m` of a class
abbrev pub holds : ClassFile → List ℕ → ClassFile
holds f descriptor = with_field (record f { constant_pool = f.constant_pool ++ texts m_name descriptor }) (record { access_flags = 0; name_index = 7; descriptor_index = 8; attributes = [] })

-- a private class holds no message; a message holds a message and no task
abbrev pub private_holds_message : Type 0
private_holds_message =
    Named (with_field (file p_name object (texts m_name (codes "Lkilim/Message;"))) (member 0 []) ∷ []) p_name (problem.FieldKind (record { name = m_name; descriptor = codes "Lkilim/Message;" }))

abbrev pub message_holds_message : Type 0
message_holds_message = Fits (holds (message p_name object) (codes "[Lkilim/Message;") ∷ []) Plain

abbrev pub message_holds_task : Type 0
message_holds_task = Named (holds (message p_name object) (codes "Lkilim/Task;") ∷ []) p_name (problem.FieldKind (record { name = m_name; descriptor = codes "Lkilim/Task;" }))

-- ---- descriptors and names

-- 128 longs are 256 slots; 127 longs, and `this`, are 255
abbrev pub with_longs : ℕ → List ℕ
with_longs n = codes "(" ++ (replicate n 74 ++ codes ")V")

abbrev pub too_many_slots : Type 0
too_many_slots = Named (class_with 0x0420 p_name object (with_longs 128) [] 0x0401 [] ∷ []) p_name (problem.Descriptor (with_longs 128))

abbrev pub enough_slots : Type 0
enough_slots = Fits (class_with 0x0420 p_name object (with_longs 127) [] 0x0401 [] ∷ []) Plain

-- a high surrogate alone, and a pair
abbrev pub lone_surrogate : Type 0
lone_surrogate = Named (file (0xD83D ∷ []) object [] ∷ []) (0xD83D ∷ []) problem.Name

-- a low one alone, and a high one before a letter
abbrev pub low_surrogate : Type 0
low_surrogate = Named (file (0xDE00 ∷ []) object [] ∷ []) (0xDE00 ∷ []) problem.Name

abbrev pub surrogate_and_letter : Type 0
surrogate_and_letter = Named (file (0xD83D ∷ 65 ∷ []) object [] ∷ []) (0xD83D ∷ 65 ∷ []) problem.Name

abbrev pub surrogate_pair : Type 0
surrogate_pair = Fits (file (0xD83D ∷ 0xDE00 ∷ []) object [] ∷ []) Plain

abbrev pub array_name : Type 0
array_name = Named (file (codes "[I") object [] ∷ []) (codes "[I") problem.Name

-- ---- frames: of a constructor with a long, by appending, by taking away more entries than there are, and in full

abbrev pub frame_table : List FrameForm
frame_table =
    form.Append 4 (slot.Integer ∷ slot.Long ∷ [])
    ∷ form.Chop 1 0
    ∷ form.SameLocals1StackItem 2 (slot.Object 2)
    ∷ form.Full 0 (slot.Long ∷ []) (slot.Long ∷ slot.Integer ∷ [])
    ∷ form.Chop 3 9
    ∷ []

abbrev pub frame_code : Code
frame_code = record { max_stack = 0; max_locals = 0; code = []; exception_table = []; attributes = record { attribute_name_index = 7; info = StackMapTable frame_table } ∷ [] }

abbrev pub constructor_file : ClassFile
constructor_file = with_method (file p_name object (texts (codes "<init>") (codes "(J)V"))) (member 0 [])

abbrev pub constructor_frames : List (ℕ × Frame)
constructor_frames =
    (4, record { locals = UninitThis ∷ Long ∷ Top ∷ Int ∷ Long ∷ Top ∷ []; stack = [] })
    ∷ (5, record { locals = UninitThis ∷ Long ∷ Top ∷ Int ∷ []; stack = [] })
    ∷ (8, record { locals = UninitThis ∷ Long ∷ Top ∷ Int ∷ []; stack = Object (typed 0 (base.Class (class_id 0))) ∷ [] })
    ∷ (9, record { locals = Long ∷ Top ∷ []; stack = Long ∷ Int ∷ [] })
    ∷ (19, record { locals = []; stack = [] })
    ∷ []

abbrev pub frames_by_slots : Type 0
frames_by_slots =
    frames_in (world_of (constructor_file ∷ []) Plain) constructor_file (class_id 0) (declared_method constructor_file (member 0 [])) frame_code ≡ Some constructor_frames

-- ---- qualifiers: of a method of a message class, `m(LP;LP;I)V`, where the first parameter is annotated as free inside
-- of another annotation and as cuttable and safe by two attributes, the second as free, and the third, which is no
-- tree, too

abbrev pub annotated_file : ClassFile
annotated_file =
    record (file p_name object (texts m_name (codes "(LP;LP;I)V") ++ (entry.Utf8 (codes "Lkilim/Free;") ∷ entry.Utf8 (codes "Lkilim/Cuttable;") ∷ entry.Utf8 (codes "Lkilim/Safe;") ∷ entry.Utf8 (codes "LOther;") ∷ entry.Utf8 (codes "kilim/Message") ∷ entry.Class 11 ∷ [])))
    { interfaces = 12 ∷ [] }

abbrev pub visible : List AnnotationPart
visible =
    Parameters 3
    ∷ Annotations 2 ∷ Annotation 10 2 ∷ ElementName 5 ∷ Nested ∷ Annotation 7 0 ∷ ElementName 5 ∷ Array 1 ∷ Constant 73 1 ∷ Annotation 9 0
    ∷ Annotations 1 ∷ Annotation 7 0
    ∷ Annotations 1 ∷ Annotation 7 0
    ∷ []

abbrev pub invisible : List AnnotationPart
invisible = Parameters 3 ∷ Annotations 1 ∷ Annotation 8 0 ∷ Annotations 0 ∷ Annotations 0 ∷ []

abbrev pub annotated : List Attribute
annotated =
    record { attribute_name_index = 5; info = info.RuntimeVisibleParameterAnnotations visible }
    ∷ record { attribute_name_index = 5; info = info.RuntimeInvisibleParameterAnnotations invisible }
    ∷ record { attribute_name_index = 5; info = info.RuntimeInvisibleAnnotations (Annotations 1 ∷ Annotation 7 0 ∷ []) }
    ∷ []

abbrev pub qualified_as : ClassFile → ℕ → List Attribute → Qualified
qualified_as f flags attributes = qualified (world_of (f ∷ []) Plain) (class_id 0) (declared_method f (member flags attributes))

abbrev pub qualifiers_of_parameters : Type 0
qualifiers_of_parameters = qualified_as annotated_file 0 annotated ≡ record { receiver = Free; params = Cuttable ∷ Free ∷ Safe ∷ [] }

-- without annotations all are safe
abbrev pub qualifiers_by_default : Type 0
qualifiers_by_default = qualified_as annotated_file 0 [] ≡ record { receiver = Safe; params = Safe ∷ Safe ∷ Safe ∷ [] }

-- a static method has no receiver
abbrev pub qualifiers_of_static : Type 0
qualifiers_of_static = qualified_as annotated_file 0x0008 annotated ≡ record { receiver = Safe; params = Cuttable ∷ Free ∷ Safe ∷ [] }

-- `execute()V` of a task, and a constructor
abbrev pub qualifiers_of_execute : Type 0
qualifiers_of_execute = qualified_as (file p_name task (texts (codes "execute") nothing)) 0 [] ≡ record { receiver = Cuttable; params = [] }

abbrev pub qualifiers_of_constructor : Type 0
qualifiers_of_constructor = qualified_as (file p_name object (texts (codes "<init>") nothing)) 0 [] ≡ record { receiver = Cuttable; params = [] }

pub record DetailsHold : Type 0 where
  pub has_method_twice : method_twice
  pub has_fiber_plain : fiber_plain
  pub has_fiber_woven : fiber_woven
  pub has_fiber_given : fiber_given
  pub has_fiber_given_woven : fiber_given_woven
  pub has_task_array : task_array
  pub has_float_argument : float_argument
  pub has_initializer : initializer
  pub has_synchronized : synchronized
  pub has_native : native
  pub has_an_interface : an_interface
  pub has_handlers : handlers
  pub has_pausable_constructor : pausable_constructor
  pub has_no_constant : no_constant
  pub has_other_constant : other_constant
  pub has_its_constant : its_constant
  pub has_other_parameters : other_parameters
  pub has_array_owner : array_owner
  pub has_fiber_owner : fiber_owner
  pub has_fiber_owner_woven : fiber_owner_woven
  pub has_static_of_interface : static_of_interface
  pub has_virtual_of_interface : virtual_of_interface
  pub has_class_constant : class_constant
  pub has_overridden : overridden
  pub has_final_overridden : final_overridden
  pub has_static_overridden : static_overridden
  pub has_private_overridden : private_overridden
  pub has_implemented : implemented
  pub has_private_implements : private_implements
  pub has_inherited_abstract : inherited_abstract
  pub has_abstract_static : abstract_static
  pub has_final_super : final_super
  pub has_private_super : private_super
  pub has_message_super : message_super
  pub has_built_in_super : built_in_super
  pub has_private_holds_message : private_holds_message
  pub has_message_holds_message : message_holds_message
  pub has_message_holds_task : message_holds_task
  pub has_too_many_slots : too_many_slots
  pub has_enough_slots : enough_slots
  pub has_lone_surrogate : lone_surrogate
  pub has_low_surrogate : low_surrogate
  pub has_surrogate_and_letter : surrogate_and_letter
  pub has_surrogate_pair : surrogate_pair
  pub has_array_name : array_name
  pub has_frames_by_slots : frames_by_slots
  pub has_qualifiers_of_parameters : qualifiers_of_parameters
  pub has_qualifiers_by_default : qualifiers_by_default
  pub has_qualifiers_of_static : qualifiers_of_static
  pub has_qualifiers_of_execute : qualifiers_of_execute
  pub has_qualifiers_of_constructor : qualifiers_of_constructor
