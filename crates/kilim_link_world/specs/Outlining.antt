-- Classes without their members, one by one.
use Rattle.std.specs.Prelude.{ℕ, Bool, false, List, [], Option, option_map, slice_get, unwrap_or}
use Rattle.kilim_program.specs.declared.class.Class.{Class}
use Rattle.kilim_program.specs.declared.class.Form.{Form}
use Rattle.kilim_program.specs.declared.names.ClassId.{ClassId}
use Rattle.kilim_program.specs.BuiltIn.{class_id}
use Rattle.kilim_program.specs.Names.{◌>>=◌}
use Rattle.kilim_program.specs.Program.{Program}
use Rattle.kilim_link_spec.specs.declared.view.ClassView.{ClassView}
use Rattle.kilim_link_world.specs.declared.ids.Ids.{Ids}
use Rattle.kilim_link_world.specs.Ids.{id_in}

-- the class of a name
abbrev pub class_in : Ids → List ℕ → Option ClassId
class_in ids name = option_map class_id (id_in ids.places name)

-- the class of a name, where there is a name
abbrev pub superclass_in : Ids → Option (List ℕ) → Option ClassId
superclass_in ids name = name >>= class_in ids

-- a class without its members, which is a message or none
abbrev pub without_members : Ids → ClassView → Bool → Class
without_members ids v message = record { name = v.name; superclass = superclass_in ids v.superclass; is_abstract = v.is_abstract; message = message; fields = []; methods = [] }

-- a program of these classes alone
abbrev pub bare : List Class → Form → Program
bare classes form = record { classes = classes; methods = []; fields = []; form = form }

-- the mark of a class, none past the end
abbrev pub mark_at : List Bool → ClassId → Bool
mark_at marks c = unwrap_or (slice_get marks c.0) false
