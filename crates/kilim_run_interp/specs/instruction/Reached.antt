-- What calls of a method come to, as far as the method and the kind of the receiver tell it.
use Rattle.std.specs.Prelude.{◌≡◌, ℕ, ◌&&◌, not, if◌then◌else◌, List, Option, None, Some, codes, length, slice_get}
use Rattle.kilim_program.specs.declared.class.Method.{Method}
use Rattle.kilim_program.specs.declared.names.ClassId.{ClassId}
use Rattle.kilim_program.specs.declared.names.MethodId.{MethodId}
use Rattle.kilim_program.specs.declared.ty.Base.TheVariants.{Class}
use Rattle.kilim_program.specs.declared.ty.Ty.{Ty}
use Rattle.kilim_program.specs.Members.{named_type}
use Rattle.kilim_program.specs.Names.{method_at}
use Rattle.kilim_program.specs.Program.{Program}
use Rattle.kilim_run_machine.specs.Does.{chosen}
use Rattle.kilim_run_machine.specs.Natives.{is_handed_out, is_of_message, is_text_method}
use Rattle.kilim_run_interp.specs.declared.instruction.reached.ByClass.{ByClass}
use Rattle.kilim_run_interp.specs.declared.instruction.reached.ByClass.TheVariants.{Asked, Called, Done}
use Rattle.kilim_run_interp.specs.declared.instruction.reached.Reach.{Reach}

abbrev pub params_in : Option Method → ℕ
params_in None = 0
params_in (Some named) = length named.params

-- by `invokestatic`
abbrev pub by_class_in : Program → Option Method → ByClass
by_class_in p None = Done
by_class_in p (Some named) = if is_handed_out p named then Asked else (if named.built_in then Done else Called)

-- a method, if it is built in and handed out
abbrev pub built_in_one : MethodId → Option Method → Option MethodId
built_in_one id None = None
built_in_one id (Some target) = if target.built_in && not (is_of_message target) then Some id else None

-- the built-in method that a call on an object of that type selects
abbrev pub asked_type : Program → Method → MethodId → Option Ty → Option MethodId
asked_type p named m None = None
asked_type p named m (Some ty) = if is_text_method p named then None else built_in_one (chosen p named m ty) (method_at p (chosen p named m ty))

-- on an object of the class of that name
abbrev pub asked_in : Program → MethodId → List ℕ → Option Method → Option MethodId
asked_in p m name None = None
asked_in p m name (Some named) = asked_type p named m (named_type p name)

-- a method, if it has code
abbrev pub with_code_one : MethodId → Option Method → Option MethodId
with_code_one id None = None
with_code_one id (Some target) = if target.built_in then None else Some id

-- the method with code that a call on an object of that type selects
abbrev pub called_type : Program → Method → MethodId → Ty → Option MethodId
called_type p named m ty = if is_text_method p named then None else with_code_one (chosen p named m ty) (method_at p (chosen p named m ty))

-- on an object of that class
abbrev pub called_in : Program → MethodId → ClassId → Option Method → Option MethodId
called_in p m class None = None
called_in p m class (Some named) = called_type p named m (record { dims = 0; base = Class class })

-- What is told of calls of a method.
pub record IsReach (p : Program) (m : MethodId) (r : Reach) : Type 0 where
  pub count : r.count ≡ params_in (method_at p m)
  pub by_class : r.by_class ≡ by_class_in p (method_at p m)
  pub on_fiber : (id : MethodId) → r.on_fiber ≡ Some id → asked_in p m (codes "kilim/Fiber") (method_at p m) ≡ Some id
  pub on_mailbox : (id : MethodId) → r.on_mailbox ≡ Some id → asked_in p m (codes "kilim/Mailbox") (method_at p m) ≡ Some id
  pub on_own : (class : ClassId) (id : MethodId) → r.on_own ≡ Some (class, id) → called_in p m class (method_at p m) ≡ Some id

-- a table has that of each method
abbrev pub AreReached : Program → List Reach → Type 0
AreReached p table = (at : ℕ) (r : Reach) → slice_get table at ≡ Some r → IsReach p (record { 0 = at }) r
