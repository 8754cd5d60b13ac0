-- What begins has a method to begin with.
use Rattle.std.proofs.Common.{◌≡◌, ℕ, true, List, Option, Some, None, refl, sym, ap, ◌∙◌}
use Rattle.std.specs.FinMap.{get}
use Rattle.kilim_program.specs.declared.names.ClassId.{ClassId}
use Rattle.kilim_program.specs.declared.names.MethodId.{MethodId}
use Rattle.kilim_program.specs.declared.ty.Base.{Base}
use Rattle.kilim_program.specs.declared.ty.Base.TheVariants as base
use Rattle.kilim_program.specs.Members.{constructor_of, execute_of, is_fit_main}
use Rattle.kilim_program.specs.Names.{◌>>=◌}
use Rattle.kilim_program.specs.Program.{Program}
use Rattle.kilim_run_state.specs.declared.value.Object.{Object}
use Rattle.kilim_run_state.specs.Machine.{Objects}
use Rattle.kilim_run_model.specs.State.{begun_on, class_of, execute_frames}
use Rattle.kilim_replay_laws.proofs.shared.Begun.{constructs}

-- a main class begins with its constructor
pub main_begins : (p : Program) (main : ClassId) (o : Option MethodId) (k : ℕ) → o ≡ constructor_of p main → is_fit_main p main ≡ true → begun_on p o k ≡ None → ⊥
main_begins p main o k is fit e = constructs p main k fit (ap (λ (m : Option MethodId). begun_on p m k) (sym is) ∙ e)

-- another method to begin with
pub begins_with : (p : Program) (o m : Option MethodId) (k : ℕ) → o ≡ m → (begun_on p m k ≡ None → ⊥) → begun_on p o k ≡ None → ⊥
begins_with p o m k is some e = some (ap (λ (x : Option MethodId). begun_on p x k) (sym is) ∙ e)

class_none : (b : Base) → ((c : ClassId) → b ≡ base.Class c → ⊥) → class_of b ≡ None
class_none (base.Class c) other = absurd (other c refl)
class_none _ other = refl

-- what begins is no array of numbers
pub other_none : (p : Program) (h : Objects) (root : ℕ) (o : Object) → get h root ≡ Some o → ((c : ClassId) → o.class.base ≡ base.Class c → ⊥) → execute_frames p h root ≡ None
other_none p h root o at other =
    ap (λ (x : Option Object). begun_on p (x >>= λ (object : Object). class_of object.class.base >>= λ c. execute_of p c) root) at
    ∙ ap (λ (x : Option ClassId). begun_on p (x >>= λ c. execute_of p c) root) (class_none o.class.base other)

-- an object of a class begins with the method of that
pub class_begins : (p : Program) (h : Objects) (root : ℕ) (o : Object) (c : ClassId) → get h root ≡ Some o → o.class.base ≡ base.Class c → execute_frames p h root ≡ begun_on p (execute_of p c) root
class_begins p h root o c at class =
    ap (λ (x : Option Object). begun_on p (x >>= λ (object : Object). class_of object.class.base >>= λ c. execute_of p c) root) at
    ∙ ap (λ (b : Base). begun_on p (class_of b >>= λ c. execute_of p c) root) class
