-- New objects.
use Rattle.std.specs.Prelude.{ℕ, ◌==◌, if◌then◌else◌, List, [], Option, Some, None, map, replicate, pos}
use Rattle.kilim_program.specs.declared.class.Field.{Field}
use Rattle.kilim_program.specs.Program.{Program}
use Rattle.kilim_program.specs.declared.names.ClassId.{ClassId}
use Rattle.kilim_program.specs.declared.names.FieldId.{FieldId}
use Rattle.kilim_program.specs.declared.ty.Base.{Base}
use Rattle.kilim_program.specs.declared.ty.Base.TheVariants as base
use Rattle.kilim_program.specs.declared.ty.Ty.{Ty}
use Rattle.kilim_run_state.specs.declared.value.Object.{Object}
use Rattle.kilim_program.specs.declared.value.Value.{Value}
use Rattle.kilim_program.specs.declared.value.Value.TheVariants.{Int, Long, Null}
use Rattle.kilim_program.specs.Names.{field_of}
use Rattle.kilim_program.specs.Members.{object_fields}

-- the value of a field or an element that nothing was stored into (JVMS 2.3, 2.4)
abbrev pub first_value_of : Base → Value
first_value_of base.Long = Long (pos 0)
first_value_of (base.Class c) = Null
first_value_of b = Int (pos 0)

abbrev pub first_value : Ty → Value
first_value ty = if ty.dims == 0 then first_value_of ty.base else Null

abbrev pub first_field : Program → FieldId → FieldId × Value
first_field p f = (f, elim (field_of p f) [ None ↦ Null | Some field ↦ first_value field.ty ])

-- an object of a class
abbrev pub new_object : Program → ClassId → Object
new_object p c = record { class = record { dims = 0; base = base.Class c }; fields = map (first_field p) (object_fields p c); elements = [] }

-- an array of that type with so many elements
abbrev pub new_array : Ty → Value → ℕ → Object
new_array ty element n = record { class = ty; fields = []; elements = replicate n element }
