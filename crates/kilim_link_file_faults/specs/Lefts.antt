-- What the steps of the search for left-out parts look for.
use Rattle.std.specs.Prelude.{not, ◌++◌, List, Option}
use Rattle.kilim_class_file.specs.declared.class_file.ClassFile.{ClassFile}
use Rattle.kilim_class_file.specs.declared.class_file.MemberInfo.{MemberInfo}
use Rattle.kilim_program.specs.declared.ty.Ty.{Ty}
use Rattle.kilim_program.specs.Names.{◌>>=◌}
use Rattle.kilim_link_spec.specs.declared.fault.LeftOutPart.{LeftOutPart}
use Rattle.kilim_link_spec.specs.declared.fault.LeftOutPart.TheVariants as part
use Rattle.kilim_link_spec.specs.World.{World, member_descriptor, has_flag, acc_synchronized, acc_native, acc_super}
use Rattle.kilim_link_spec.specs.Types.{field_text, type_in}
use Rattle.kilim_link_spec.specs.LeftOut.{if_left, has_float, has_initializer, has_static_field, has_method_flag, has_interface, has_pausable_constructor, has_pausable_handlers, has_task_array, has_fiber_name, has_other_parameters}

-- the type of a field in a program, where it is there
abbrev pub field_type : World → ClassFile → MemberInfo → Option Ty
field_type w file field = field_text (member_descriptor file field) >>= type_in w

-- those that stand behind the left-out instructions, in their order
abbrev pub tested_parts : World → ClassFile → List LeftOutPart
tested_parts w file =
    if_left (has_float file) part.Float
    ++ (if_left (has_initializer file) part.ClassInitializer
    ++ (if_left (has_static_field w file) part.StaticField
    ++ (if_left (has_method_flag acc_synchronized file) part.Synchronized
    ++ (if_left (has_method_flag acc_native file) part.Native
    ++ (if_left (has_interface file) part.Interface
    ++ (if_left (not (has_flag acc_super file.access_flags)) part.NoSuperFlag
    ++ (if_left (has_pausable_constructor file) part.PausableConstructor
    ++ (if_left (has_pausable_handlers file) part.PausableHandlers
    ++ (if_left (has_task_array w file) part.TaskArray
    ++ (if_left (has_fiber_name w file) part.Fiber
    ++ if_left (has_other_parameters file) part.ParameterAnnotations))))))))))
