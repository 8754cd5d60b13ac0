-- The built-in classes and methods alone are a program.
use Rattle.std.proofs.Common.{◌≡◌, List}
use Rattle.kilim_program.specs.declared.class.Class.{Class}
use Rattle.kilim_program.specs.declared.class.Field.{Field}
use Rattle.kilim_program.specs.declared.class.Form.{Form}
use Rattle.kilim_program.specs.declared.class.Form.TheVariants.{Plain, Woven}
use Rattle.kilim_program.specs.declared.class.Method.{Method}
use Rattle.kilim_program.specs.BuiltIn.{built_in_classes_in, built_in_fields, built_in_methods_in}
use Rattle.kilim_program.specs.Examples.{BuiltInKeeps, built_in_program}
use Rattle.kilim_program.specs.Keeps.{Keeps}

in_form : BuiltInKeeps → (form : Form) → Keeps (built_in_program form)
in_form law Plain = law.plain
in_form law Woven = law.woven

pub keeps : BuiltInKeeps → (form : Form) (classes : List Class) (methods : List Method) (fields : List Field) → classes ≡ built_in_classes_in form 0 0 → methods ≡ built_in_methods_in form 0
    → fields ≡ built_in_fields 0 → Keeps (record { classes = classes; methods = methods; fields = fields; form = form })
keeps law form classes methods fields e f g = rw (e, f, g) (in_form law form)
