-- The texts of a woven file: descriptors with the fiber, class names, the members of the fiber.
use Rattle.std.specs.Prelude.{ℕ, ◌==◌, if◌then◌else◌, List, [], ◌∷◌, ◌++◌, Option, Some, None, codes}
use Rattle.kilim_class_descriptors.specs.declared.types.BaseText.TheVariants as text
use Rattle.kilim_class_descriptors.specs.declared.types.FieldText.{FieldText}
use Rattle.kilim_class_descriptors.specs.declared.types.MethodText.{MethodText}
use Rattle.kilim_class_descriptors.specs.Text.{method_text as text_of_method}
use Rattle.kilim_program.specs.declared.class.Method.{Method}
use Rattle.kilim_program.specs.declared.names.MethodId.{MethodId}
use Rattle.kilim_program.specs.declared.ty.Base.{Base}
use Rattle.kilim_program.specs.declared.ty.Base.TheVariants as base
use Rattle.kilim_program.specs.declared.ty.Ty.{Ty}
use Rattle.kilim_program.specs.Program.{Program}
use Rattle.kilim_program.specs.Names.{class_name, descriptor, method_at}
use Rattle.kilim_link_spec.specs.Types.{method_text}
use Rattle.kilim_link_spec.specs.World.{method_descriptor}
use Rattle.kilim_class_making.specs.declared.pool_needs.need.Need.{Need}
use Rattle.kilim_class_making.specs.declared.pool_needs.need.Need.TheVariants.{AMethod}

-- `Lkilim/Fiber;`
abbrev pub fiber_text : FieldText
fiber_text = record { dims = 0; base = text.Class (codes "kilim/Fiber") }

-- the fiber as the last parameter
abbrev pub with_fiber : MethodText → MethodText
with_fiber m = record { params = m.params ++ fiber_text ∷ []; result = m.result }

-- Where a descriptor's parameters end is found by reading it: a class name may have a closing parenthesis.
abbrev pub fiber_added : List ℕ → Option MethodText → List ℕ
fiber_added units None = units
fiber_added units (Some m) = text_of_method (with_fiber m)

unfoldable pub woven_descriptor : List ℕ → List ℕ
woven_descriptor units = fiber_added units (method_text units)

-- what a Class entry of a type holds: the name of a class, or an array's descriptor (JVMS 4.4.1)
abbrev pub class_entry_name : Program → Ty → Base → List ℕ
class_entry_name p ty (base.Class c) = if ty.dims == 0 then class_name p c else descriptor p ty
class_entry_name p ty b = descriptor p ty

abbrev pub type_name : Program → Ty → List ℕ
type_name p ty = class_entry_name p ty ty.base

-- a member of a built-in class
abbrev pub member_need : Program → Option Method → Need
member_need p None = AMethod [] [] []
member_need p (Some m) = AMethod (class_name p m.owner) m.name (method_descriptor p m)

abbrev pub needed_method : Program → MethodId → Need
needed_method p id = member_need p (method_at p id)
