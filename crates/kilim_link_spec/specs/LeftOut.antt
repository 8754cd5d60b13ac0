-- The parts of class files that this project leaves out (own): a test for each, and the list of those that a class has.
use Rattle.std.specs.Prelude.{ℕ, Bool, true, false, ◌&&◌, ◌||◌, not, ◌==◌, nat_lt, List, [], ◌∷◌, ◌++◌, map, length, Option, Some, None, Result, Err, codes}
use Rattle.std.specs.List.{list_any, flat_map, filter_map}
use Rattle.std.specs.Str.{bytes_eq}
use Rattle.kilim_class_attributes.specs.declared.attribute.Code.{Code}
use Rattle.kilim_class_code.specs.declared.fault.CodeFault.{CodeFault}
use Rattle.kilim_class_code.specs.declared.fault.CodeFault.TheVariants as code
use Rattle.kilim_class_code.specs.Code.{Placed}
use Rattle.kilim_class_file.specs.declared.class_file.ClassFile.{ClassFile}
use Rattle.kilim_class_file.specs.declared.class_file.MemberInfo.{MemberInfo}
use Rattle.kilim_class_descriptors.specs.declared.types.BaseText.{BaseText}
use Rattle.kilim_class_descriptors.specs.declared.types.BaseText.TheVariants as text
use Rattle.kilim_class_descriptors.specs.declared.types.MethodText.{MethodText}
use Rattle.kilim_class_code.specs.declared.opcodes.fault.OpFault.TheVariants as op
use Rattle.kilim_program.specs.declared.names.ClassId.{ClassId}
use Rattle.kilim_program.specs.declared.ty.Ty.{Ty}
use Rattle.kilim_program.specs.Names.{◌>>=◌, is_task, is_empty}
use Rattle.kilim_program.specs.Keeps.{constant_fits}
use Rattle.kilim_link_spec.specs.declared.fault.LeftOutPart.{LeftOutPart}
use Rattle.kilim_link_spec.specs.declared.fault.LeftOutPart.TheVariants as part
use Rattle.kilim_link_spec.specs.World.{World, own_name, interface_names, member_name, member_descriptor, has_flag, acc_static, acc_synchronized, acc_native, acc_interface, acc_super, declared_method, parameter_parts, class_of}
use Rattle.kilim_link_spec.specs.Annotations.{params_in}
use Rattle.kilim_link_spec.specs.Types.{field_text, method_text, type_in}
use Rattle.kilim_link_spec.specs.Qualified.{is_constructor_name, has_fiber}
use Rattle.kilim_link_spec.specs.Code.{decoded}
use Rattle.kilim_link_spec.specs.Linked.{code_attribute, constant_of}
use Rattle.kilim_link_spec.specs.Mentions.{Mention, OfFloat, mentions_of, class_names, all_types}

-- `kilim/Fiber`, which is left out in plain form
abbrev pub is_fiber : List ℕ → Bool
is_fiber name = bytes_eq name (codes "kilim/Fiber")

-- what `decode` answers for each method's code, in order
abbrev pub decoded_in : Option Code → List (Result (List Placed) CodeFault)
decoded_in None = []
decoded_in (Some c) = decoded c.code ∷ []

-- the number of a left-out instruction, where it is the first fault of code
abbrev pub left_out_op : Result (List Placed) CodeFault → Option ℕ
left_out_op (Err (code.Op (op.LeftOut number) at)) = Some number
left_out_op _ = None

-- of each method in order, where it has one
abbrev pub left_out_ops : ClassFile → List ℕ
left_out_ops file = filter_map left_out_op (flat_map (λ m. decoded_in (code_attribute m)) file.methods)

-- float and double
abbrev pub is_float_base : BaseText → Bool
is_float_base text.Float = true
is_float_base text.Double = true
is_float_base _ = false

-- a float or double type of a frame
abbrev pub is_float_mention : Mention → Bool
is_float_mention OfFloat = true
is_float_mention _ = false

-- a descriptor, the name of an array or a frame has a float or double type
abbrev pub has_float : ClassFile → Bool
has_float file = list_any (λ f. is_float_base f.base) (all_types file) || list_any is_float_mention (mentions_of file)

-- a method is named `<clinit>` (JVMS 2.9)
abbrev pub has_initializer : ClassFile → Bool
has_initializer file = list_any (λ m. bytes_eq (member_name file m) (codes "<clinit>")) file.methods

-- the ConstantValue of a field is one of its type (JVMS 4.7.2)
abbrev pub has_its_constant : World → ClassFile → MemberInfo → Option Ty → Bool
has_its_constant w file field None = false
has_its_constant w file field (Some ty) = constant_fits w.outline ty (constant_of file.constant_pool field)

-- a static field has no constant of its type
abbrev pub has_static_field : World → ClassFile → Bool
has_static_field w file =
    list_any (λ f. has_flag acc_static f.access_flags && not (has_its_constant w file f (field_text (member_descriptor file f) >>= type_in w))) file.fields

-- a method has this flag: `synchronized` or `native`
abbrev pub has_method_flag : ℕ → ClassFile → Bool
has_method_flag flag file = list_any (λ m. has_flag flag m.access_flags) file.methods

-- the class is an interface, or lists another interface than `kilim/Message`
abbrev pub has_interface : ClassFile → Bool
has_interface file = has_flag acc_interface file.access_flags || list_any (λ name. not (bytes_eq name (codes "kilim/Message"))) (interface_names file)

-- a constructor pauses
abbrev pub has_pausable_constructor : ClassFile → Bool
has_pausable_constructor file = list_any (λ m. is_constructor_name (member_name file m) && (declared_method file m).pausable) file.methods

-- an exception table with a row (JVMS 4.7.3)
abbrev pub has_row : Option Code → Bool
has_row None = false
has_row (Some c) = not (is_empty c.exception_table)

-- the code of some method that pauses has one, also where it has a fault
abbrev pub has_pausable_handlers : ClassFile → Bool
has_pausable_handlers file = list_any (λ m. has_row (code_attribute m) && (declared_method file m).pausable) file.methods

-- `kilim/Task`, or a class below it
abbrev pub is_task_name : World → Option ClassId → Bool
is_task_name w None = false
is_task_name w (Some c) = is_task w.outline c

-- a type of such a class
abbrev pub is_task_base : World → BaseText → Bool
is_task_base w (text.Class name) = is_task_name w (class_of w name)
is_task_base w b = false

-- the file names an array of tasks, in any number of dimensions
abbrev pub has_task_array : World → ClassFile → Bool
has_task_array w file = list_any (λ f. nat_lt 0 f.dims && is_task_base w f.base) (all_types file)

-- in plain form, as the class's own name or one that it names
abbrev pub has_fiber_name : World → ClassFile → Bool
has_fiber_name w file = not (has_fiber w.form) && (is_fiber (own_name file) || list_any is_fiber (class_names file))

-- an attribute of parameters has another number of them than the descriptor
abbrev pub differs_in : Option MethodText → ℕ → Bool
differs_in None count = false
differs_in (Some m) count = not (count == length m.params)

-- an attribute of some method has (JVMS 4.7.18, 4.7.19)
abbrev pub has_other_parameters : ClassFile → Bool
has_other_parameters file =
    list_any (λ m. list_any (λ parts. differs_in (method_text (member_descriptor file m)) (length (params_in parts))) (filter_map (λ a. parameter_parts a.info) m.attributes)) file.methods

-- one left-out part where the test says so, and none else
abbrev pub if_left : Bool → LeftOutPart → List LeftOutPart
if_left true p = p ∷ []
if_left false p = []

-- in the order in which one of several is named
unfoldable pub left_out_parts : World → ClassFile → List LeftOutPart
left_out_parts w file =
    map part.Opcode (left_out_ops file)
    ++ (if_left (has_float file) part.Float
    ++ (if_left (has_initializer file) part.ClassInitializer
    ++ (if_left (has_static_field w file) part.StaticField
    ++ (if_left (has_method_flag acc_synchronized file) part.Synchronized
    ++ (if_left (has_method_flag acc_native file) part.Native
    ++ (if_left (has_interface file) part.Interface
    ++ (if_left (not (has_flag acc_super file.access_flags)) part.NoSuperFlag
    ++ (if_left (has_pausable_constructor file) part.PausableConstructor
    ++ (if_left (has_pausable_handlers file) part.PausableHandlers
    ++ (if_left (has_task_array w file) part.TaskArray
    ++ (if_left (has_fiber_name w file) part.Fiber
    ++ if_left (has_other_parameters file) part.ParameterAnnotations)))))))))))
