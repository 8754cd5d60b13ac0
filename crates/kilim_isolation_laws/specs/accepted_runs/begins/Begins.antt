-- The constructor with which task 0 begins.
use Rattle.std.specs.Prelude.{◌≡◌, List, Some}
use Rattle.kilim_program.specs.declared.class.Form.{Form}
use Rattle.kilim_program.specs.declared.class.Method.{Method}
use Rattle.kilim_program.specs.declared.names.ClassId.{ClassId}
use Rattle.kilim_program.specs.declared.names.MethodId.{MethodId}
use Rattle.kilim_program.specs.declared.ty.Qualifier.TheVariants.{Free}
use Rattle.kilim_program.specs.Names.{method_at}
use Rattle.kilim_program.specs.Program.{Program}
use Rattle.kilim_class_file.specs.declared.class_file.ClassFile.{ClassFile}
use Rattle.kilim_link_spec.specs.LinksWell.{LinksWell}
use Rattle.kilim_program.specs.Members.{constructor_of}

-- its receiver isn't free, so the object stays that task's own
abbrev pub MainBegins : Program → ClassId → Type 0
MainBegins p main = (id : MethodId) (m : Method) → constructor_of p main ≡ Some id → method_at p id ≡ Some m → m.receiver ≡ Free → ⊥

-- So it is of every class of a linked program.
abbrev pub MainsBegin : Type 0
MainsBegin = (files : List ClassFile) (form : Form) (p : Program) → LinksWell files form p → (main : ClassId) → MainBegins p main
