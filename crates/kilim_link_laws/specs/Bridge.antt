-- What the outline of a world says of the program that its files link to.
use Rattle.std.specs.Prelude.{◌≡◌, List, [], map, Option}
use Rattle.kilim_class_file.specs.declared.class_file.ClassFile.{ClassFile}
use Rattle.kilim_program.specs.declared.class.Class.{Class}
use Rattle.kilim_program.specs.declared.class.Form.{Form}
use Rattle.kilim_program.specs.declared.names.ClassId.{ClassId}
use Rattle.kilim_program.specs.declared.ty.Kind.{Kind}
use Rattle.kilim_program.specs.declared.ty.Ty.{Ty}
use Rattle.kilim_program.specs.Keeps.{ancestors_of, is_object, superclass_fits}
use Rattle.kilim_program.specs.Kinds.{class_kind, kind_of, is_message, is_task_type, is_task_array, field_may_hold}
use Rattle.kilim_program.specs.Names.{class_name, line_of, is_task}
use Rattle.kilim_program.specs.Program.{Program}
use Rattle.kilim_link_spec.specs.LinksWell.{LinksWell}
use Rattle.kilim_link_spec.specs.World.{world_of}

-- a class without its members
abbrev pub bare : Class → Class
bare class = record { name = class.name; superclass = class.superclass; is_abstract = class.is_abstract; message = class.message; fields = []; methods = [] }

-- a program without its members
abbrev pub bared : Program → Program
bared p = record { classes = map bare p.classes; methods = []; fields = []; form = p.form }

-- what only looks at names, superclasses and marks is the same of both
pub record Agree (outline p : Program) : Type 0 where
  pub lines : (c : ClassId) → line_of outline c ≡ line_of p c
  pub ancestors : (c : ClassId) → ancestors_of outline c ≡ ancestors_of p c
  pub names : (c : ClassId) → class_name outline c ≡ class_name p c
  pub tasks : (c : ClassId) → is_task outline c ≡ is_task p c
  pub messages : (c : ClassId) → is_message outline c ≡ is_message p c
  pub class_kinds : (c : ClassId) → class_kind outline c ≡ class_kind p c
  pub kinds : (ty : Ty) → kind_of outline ty ≡ kind_of p ty
  pub task_types : (ty : Ty) → is_task_type outline ty ≡ is_task_type p ty
  pub task_arrays : (ty : Ty) → is_task_array outline ty ≡ is_task_array p ty
  pub may_hold : (kind : Kind) (ty : Ty) → field_may_hold outline kind ty ≡ field_may_hold p kind ty
  pub objects : (c : ClassId) → is_object outline c ≡ is_object p c
  pub supers : (c : ClassId) (up : Option ClassId) → superclass_fits outline c up ≡ superclass_fits p c up

-- A program without its members agrees with it.
abbrev pub BaredAgrees : Type 0
BaredAgrees = (p : Program) → Agree (bared p) p

-- The outline of a world is the program that its files link to, without its members.
abbrev pub OutlineIsBared : Type 0
OutlineIsBared = (files : List ClassFile) (form : Form) (p : Program) → LinksWell files form p → (world_of files form).outline ≡ bared p

-- So it agrees with it.
abbrev pub OutlineAgrees : Type 0
OutlineAgrees = (files : List ClassFile) (form : Form) (p : Program) → LinksWell files form p → Agree (world_of files form).outline p
