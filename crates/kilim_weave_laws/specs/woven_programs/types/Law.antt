-- Which types stand in the frames of well-typed code.
use Rattle.std.specs.Prelude.{◌≡◌, ℕ, Bool, true, not, ◌&&◌, List, [], ◌∷◌, Some}
use Rattle.std.specs.List.{list_all}
use Rattle.kilim_program.specs.declared.class.Method.{Method}
use Rattle.kilim_program.specs.declared.instr.Instr.{Instr}
use Rattle.kilim_program.specs.declared.names.MethodId.{MethodId}
use Rattle.kilim_program.specs.declared.ty.Ty.{Ty}
use Rattle.kilim_program.specs.declared.verified.VType.{VType}
use Rattle.kilim_program.specs.declared.verified.VType.TheVariants.{Object}
use Rattle.kilim_program.specs.Keeps.{Keeps, has_type}
use Rattle.kilim_program.specs.Kinds.{is_task_array}
use Rattle.kilim_program.specs.Names.{method_at}
use Rattle.kilim_program.specs.Program.{Program}
use Rattle.kilim_type_spec.specs.Step.{Types, peek}
use Rattle.kilim_type_spec.specs.Typed.{IsWellTyped, has_code, typing_of}

-- its class is in the program, and it is no array of tasks
abbrev pub may_stand : Program → Ty → Bool
may_stand p ty = has_type p ty && not (is_task_array p ty)

-- what an object is declared as may stand there
abbrev pub stands : Program → VType → Bool
stands p (Object ty) = may_stand p ty
stands p t = true

pub record AllStand (p : Program) (f : Types) : Type 0 where
  pub locals : (slot : ℕ) → stands p (peek f.locals slot) ≡ true
  pub stack : list_all (stands p) f.stack ≡ true

-- at each place of code
abbrev pub StandAt : Program → (ℕ → Types) → List (ℕ × Instr) → Type 0
StandAt p typing [] = Unit {0}
StandAt p typing (e ∷ es) = AllStand p (typing e.0) × StandAt p typing es

abbrev pub TypesAreThere : Type 0
TypesAreThere = (p : Program) → Keeps p → IsWellTyped p → (id : MethodId) (m : Method) → method_at p id ≡ Some m → has_code m ≡ true → StandAt p (typing_of p m) m.code
