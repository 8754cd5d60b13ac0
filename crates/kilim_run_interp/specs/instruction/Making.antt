-- The fields of a new object.
use Rattle.std.specs.Prelude.{if◌then◌else◌, List, Option, Some, None, filter, map}
use Rattle.kilim_program.specs.declared.class.Field.{Field}
use Rattle.kilim_program.specs.declared.names.FieldId.{FieldId}
use Rattle.kilim_program.specs.declared.ty.Ty.{Ty}
use Rattle.kilim_program.specs.declared.value.Value.{Value}
use Rattle.kilim_program.specs.Program.{Program}
use Rattle.kilim_program.specs.Names.{field_of}
use Rattle.kilim_program.specs.Members.{is_instance_field}
use Rattle.kilim_run_state.specs.Objects.{first_field}

-- the type of an instance field; of a static one none
abbrev pub type_in : Option Field → Option Ty
type_in None = None
type_in (Some field) = if field.is_static then None else Some field.ty

abbrev pub instance_type : Program → FieldId → Option Ty
instance_type p f = type_in (field_of p f)

-- the instance fields among these, with their first values
abbrev pub first_fields : Program → List FieldId → List (FieldId × Value)
first_fields p fs = map (first_field p) (filter (is_instance_field p) fs)
