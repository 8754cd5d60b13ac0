-- What the rows of the built-in classes and methods mean.
use Rattle.std.specs.Prelude.{ℕ, ◌+◌, Bool, true, false, List, [], ◌∷◌, ◌++◌, Option, Some, None, map, option_map, codes}
use Rattle.kilim_program.specs.declared.names.ClassId.{ClassId}
use Rattle.kilim_program.specs.declared.ty.Base.TheVariants as base
use Rattle.kilim_program.specs.declared.ty.Ty.{Ty}
use Rattle.kilim_program.specs.declared.ty.Qualifier.{Qualifier}
use Rattle.kilim_program.specs.declared.ty.Qualifier.TheVariants.{Cuttable, Safe}
use Rattle.kilim_program.specs.declared.class.Class.{Class}
use Rattle.kilim_program.specs.declared.class.Form.{Form}
use Rattle.kilim_program.specs.declared.class.Form.TheVariants.{Woven}
use Rattle.kilim_program.specs.declared.class.Method.{Method}
use Rattle.kilim_program.specs.BuiltIn.{class_id, plain_type, class_type, built_in_class, built_in_method, methods_from}
use Rattle.kilim_link_views.specs.declared.built_ins.rows.Kind.{Kind}
use Rattle.kilim_link_views.specs.declared.built_ins.rows.Kind.TheVariants as kind
use Rattle.kilim_link_views.specs.declared.built_ins.rows.ClassRow.{ClassRow}
use Rattle.kilim_link_views.specs.declared.built_ins.rows.ExceptionRow.{ExceptionRow}
use Rattle.kilim_link_views.specs.declared.built_ins.rows.MethodRow.{MethodRow}

-- the class of a row
abbrev pub class_of : Option ClassId → ℕ → ClassRow → Class
class_of superclass first row = built_in_class row.name.now superclass row.message (methods_from first row.methods.now)

-- the class of exceptions of a row, by the numbers of the first class and the first method
abbrev pub exception_of : ℕ → ℕ → ExceptionRow → Class
exception_of first method row = built_in_class row.name.now (Some (class_id (first + row.superclass))) false (methods_from method row.methods.now)

-- the type of a kind
abbrev pub type_of : ℕ → Kind → Ty
type_of first kind.Bool = plain_type base.Bool
type_of first kind.Char = plain_type base.Char
type_of first kind.Int = plain_type base.Int
type_of first kind.Long = plain_type base.Long
type_of first (kind.Object class) = class_type (first + class)
type_of first (kind.Objects class) = record { dims = 1; base = base.Class (class_id (first + class)) }

-- the fiber, where a method takes it
abbrev pub fiber_kinds : Form → Bool → List Kind
fiber_kinds Woven true = kind.Object 18 ∷ []
fiber_kinds _ _ = []

-- its qualifier
abbrev pub fiber_marks : Form → Bool → List Qualifier
fiber_marks Woven true = Safe ∷ []
fiber_marks _ _ = []

abbrev pub params_of : Form → ℕ → MethodRow → List Ty
params_of form first row = map (type_of first) row.params.now ++ map (type_of first) (fiber_kinds form row.pausable)

abbrev pub marks_of : Form → MethodRow → List Qualifier
marks_of form row = row.qualifiers.now ++ fiber_marks form row.pausable

-- the method of a row
abbrev pub method_of : Form → ℕ → MethodRow → Method
method_of form first row =
    built_in_method row.name.now (class_id (first + row.owner)) (params_of form first row) (option_map (type_of first) row.gives) row.is_static row.pausable row.receiver (marks_of form row)

-- a constructor of the class that stands so far behind the first one
abbrev pub constructor_with : ℕ → ℕ → List Kind → List Qualifier → Method
constructor_with first owner params qualifiers = built_in_method (codes "<init>") (class_id (first + owner)) (map (type_of first) params) None false false Cuttable qualifiers
