-- What the code answers, by the definitions.
use Rattle.std.specs.Prelude.{◌≡◌, ℕ, ◌-◌, false, ◌&&◌, ◌||◌, ◌==◌, if◌then◌else◌, List, [], ◌∷◌, ◌++◌, Option, Some, None, Result, Ok, Err}
use Rattle.kilim_program.specs.declared.class.Method.{Method}
use Rattle.kilim_program.specs.declared.names.ClassId.{ClassId}
use Rattle.kilim_program.specs.Names.{class_at}
use Rattle.kilim_program.specs.declared.verified.VType.{VType}
use Rattle.kilim_program.specs.declared.verified.VType.TheVariants.{Null, UninitThis, Uninit, Object}
use Rattle.kilim_program.specs.Program.{Program}
use Rattle.kilim_type_spec.specs.Step.{Types, Further, all_meet, vtype, is_class, superclass_at, made_at, replaced, class_vtype}
use Rattle.kilim_type_step.specs.declared.fault.StepFault.{StepFault}
use Rattle.kilim_type_step.specs.declared.fault.StepFault.TheVariants.{Rule, Memory}

-- the types that are meant, or the rule; want of memory is free
abbrev pub answers : Result Types ℕ → Result Unit StepFault → Types → Type 0
answers meant (Ok u) state = meant ≡ Ok state
answers meant (Err (Rule n)) state = meant ≡ Err n
answers meant (Err Memory) state = Unit {0}

-- the first further rule that fails
abbrev pub failing : Program → List Further → List VType → Option ℕ
failing p [] s = None
failing p (r ∷ rs) s = if r.holds && all_meet p r.operands s then failing p rs s else Some r.number

-- the type of an element, of a reference to an array of references
abbrev pub element_by : Option VType → Option VType
element_by (Some Null) = Some Null
element_by (Some (Object ty)) = Some (vtype (record ty { dims = ty.dims - 1 }))
element_by _ = None

-- the class of the object that a constructor of this class makes of a type, none where it doesn't fit
abbrev pub class_made : Program → Method → ClassId → VType → Option ClassId
class_made p m class UninitThis = if class.0 == m.owner.0 || is_class class (superclass_at (class_at p m.owner)) then Some m.owner else None
class_made p m class (Uninit at) = if is_class class (made_at m.code at) then Some class else None
class_made p m class t = None

-- that object is initialized, wherever it stands
abbrev pub initialized : VType → VType → Types → Types
initialized UninitThis made f = record { locals = replaced UninitThis made f.locals; stack = replaced UninitThis made f.stack; unset = false }
initialized t made f = record { locals = replaced t made f.locals; stack = replaced t made f.stack; unset = f.unset }

-- what a constructor leaves of an object of that type: what it gives, above the rest of the stack
abbrev pub left_by_made : VType → ClassId → List VType → List VType → Types → Types
left_by_made t made gives rest f =
    record (initialized t (class_vtype made) (record f { stack = rest })) { stack = gives ++ (initialized t (class_vtype made) (record f { stack = rest })).stack }
