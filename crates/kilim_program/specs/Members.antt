-- Which members a class gives its objects and calls, which main classes are fit, and the names under which objects are shown.
use Rattle.std.specs.Prelude.{ℕ, Bool, false, ◌&&◌, not, ◌==◌, if◌then◌else◌, List, Option, Some, None, is_none, reverse, filter, codes}
use Rattle.std.specs.List.{flat_map}
use Rattle.std.specs.Str.{bytes_eq}
use Rattle.kilim_program.specs.declared.names.ClassId.{ClassId}
use Rattle.kilim_program.specs.declared.names.MethodId.{MethodId}
use Rattle.kilim_program.specs.declared.names.FieldId.{FieldId}
use Rattle.kilim_program.specs.declared.ty.Base.{Base}
use Rattle.kilim_program.specs.declared.ty.Base.TheVariants as base
use Rattle.kilim_program.specs.declared.ty.Ty.{Ty}
use Rattle.kilim_program.specs.declared.class.Method.{Method}
use Rattle.kilim_program.specs.declared.class.Class.{Class}
use Rattle.kilim_program.specs.Program.{Program}
use Rattle.kilim_program.specs.Same.{selected}
use Rattle.kilim_program.specs.Names.{◌>>=◌, class_at, method_at, field_of, line_of, methods_of, fields_of, first_that, is_empty, class_name, is_task, base_descriptor, descriptor, class_named}

abbrev pub is_instance_field : Program → FieldId → Bool
is_instance_field p f = elim (field_of p f) [ None ↦ false | Some field ↦ not field.is_static ]

-- the fields of an object of that class: those of superclasses first, each class in declared order
abbrev pub object_fields : Program → ClassId → List FieldId
object_fields p c = filter (is_instance_field p) (flat_map (fields_of p) (reverse (line_of p c)))

-- a method of that name that takes nothing and gives nothing: its descriptor is ()V
abbrev pub is_plain_method : Program → List ℕ → MethodId → Bool
is_plain_method p name m = elim (method_at p m) [ None ↦ false | Some method ↦ bytes_eq method.name name && (is_empty method.params && is_none method.result) ]

-- the constructor without arguments that a class declares (JVMS 2.9)
abbrev pub constructor_of : Program → ClassId → Option MethodId
constructor_of p c = first_that (is_plain_method p (codes "<init>")) (methods_of p c)

-- the built-in `execute`, of `kilim/Task`: in woven form it takes a fiber
abbrev pub is_task_execute : Method → Bool
is_task_execute method = method.built_in && bytes_eq method.name (codes "execute")

-- the method `execute` that objects of that class have: the one that a call of the built-in one selects
abbrev pub execute_of : Program → ClassId → Option MethodId
execute_of p c = first_that is_task_execute p.methods >>= selected p c

abbrev pub is_own_constructor : Option Method → Bool
is_own_constructor None = false
is_own_constructor (Some method) = not method.is_static && not method.built_in

abbrev pub is_concrete : Option Class → Bool
is_concrete None = false
is_concrete (Some class) = not class.is_abstract

-- A main class is fit where it is a class of the files, a subclass of `kilim/Task`, not abstract, and declares
-- a constructor without arguments that isn't static.
abbrev pub is_fit_main : Program → ClassId → Bool
is_fit_main p c = is_concrete (class_at p c) && (is_task p c && is_own_constructor (constructor_of p c >>= method_at p))

-- the name under which an object is shown: its class name, or an array's descriptor
abbrev pub name_in_base : Program → Base → List ℕ
name_in_base p (base.Class c) = class_name p c
name_in_base p b = base_descriptor p b

abbrev pub shown_name : Program → Ty → List ℕ
shown_name p ty = if ty.dims == 0 then name_in_base p ty.base else descriptor p ty

abbrev pub named_class : Option ClassId → Option Ty
named_class None = None
named_class (Some c) = Some (record { dims = 0; base = base.Class c })

abbrev pub named_type : Program → List ℕ → Option Ty
named_type p name = named_class (class_named p name)
