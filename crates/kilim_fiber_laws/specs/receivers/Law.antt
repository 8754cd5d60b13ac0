-- While a pausable method runs, its receiver stays in the heap.
use Rattle.std.specs.Prelude.{◌≡◌, ℕ, true, List, [], ◌∷◌, Some}
use Rattle.kilim_program.specs.declared.names.MethodId.{MethodId}
use Rattle.kilim_program.specs.declared.value.Value.{Value}
use Rattle.kilim_program.specs.declared.value.Value.TheVariants.{Ref}
use Rattle.kilim_type_sound.specs.Fits.{IsThere}
use Rattle.kilim_run_state.specs.Machine.{Objects}
use Rattle.kilim_isolation_laws.specs.Laws.{IsRunOfAccepted}
use Rattle.kilim_run_model.specs.declared.deed.Beginning.{Beginning}
use Rattle.kilim_run_model.specs.Course.{lone_begun}
use Rattle.kilim_run_model.specs.State.{Setting}
use Rattle.kilim_fiber_spec.specs.lone.Law.{lone_at}
use Rattle.kilim_fiber_spec.specs.Form.{is_pausable}
use Rattle.kilim_fiber_spec.specs.Thread.{At, Frame, Run, Stop, Thread, steps}

-- A task begins: with the object of number 0, its own, as the receiver.
abbrev pub IsBegun : Setting → Thread → Type 0
IsBegun set (Run m p l s x b w) = (begins : Beginning) × (lone_begun set begins ≡ Some (lone_at m p l s b w)) × (x ≡ Ref 0)
IsBegun set (Stop o) = ⊥

-- the receiver of a frame of that method, if it is pausable
abbrev pub SelfThere : Setting → Objects → MethodId → Value → Type 0
SelfThere set h c y = is_pausable set.program c ≡ true → IsThere h y

-- and those of all frames below
abbrev pub SelvesThere : Setting → Objects → MethodId → Value → List Frame → Type 0
SelvesThere set h c y [] = SelfThere set h c y
SelvesThere set h c y (At m q l s x ∷ b) = SelfThere set h c y × SelvesThere set h m x b

abbrev pub SelvesIn : Setting → Thread → Type 0
SelvesIn set (Run m p l s x b w) = SelvesThere set w.heap m x b
SelvesIn set (Stop o) = Unit {0}

-- In an accepted program, whatever a task does: the receiver of each pausable method that runs is in the heap, if it is an object.
abbrev pub ReceiversStay : Type 0
ReceiversStay = (set : Setting) → IsRunOfAccepted set → (first : Thread) → IsBegun set first → (n : ℕ) → SelvesIn set (steps set n first)
