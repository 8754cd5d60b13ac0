-- What the interpreter asks of a fiber before its next step, and of what that calls.
use Rattle.std.specs.Prelude.{◌≡◌, ◌<◌, ℕ, Bool, true, List, [], ◌∷◌, Option, Some, length}
use Rattle.std.specs.FinMap.{get}
use Rattle.kilim_program.specs.declared.names.MethodId.{MethodId}
use Rattle.kilim_program.specs.declared.value.Value.{Value}
use Rattle.kilim_program.specs.declared.value.Value.TheVariants.{Ref}
use Rattle.kilim_program.specs.Program.{Program}
use Rattle.kilim_fiber_spec.specs.fiber_kin.Acts.{IsGiven}
use Rattle.kilim_fiber_spec.specs.fiber_kin.Served.{gives_value}
use Rattle.kilim_run_interp.specs.Run.{IsFine}
use Rattle.kilim_run_interp.specs.Step.{stack_limit}
use Rattle.kilim_run_state.specs.declared.value.Object.{Object}
use Rattle.kilim_run_state.specs.Machine.{Objects, Activation}
use Rattle.kilim_run_machine.specs.Moves.{Move, moves}
use Rattle.kilim_run_machine.specs.Moves as move
use Rattle.kilim_run_machine.specs.Natives.{Native, native_of}
use Rattle.kilim_run_machine.specs.Natives as native
use Rattle.kilim_run_state.specs.Trees.{Root}
use Rattle.kilim_run_model.specs.Kept.{given}

-- a built-in method whose result goes on top of the stack, or a member of `kilim/Fiber`
abbrev pub may_give : Option Native → Bool
may_give (Some (native.OfFiber member)) = true
may_give n = gives_value n

abbrev pub HasRoom : Program → List Activation → Type 0
HasRoom W [] = ⊥
HasRoom W (top ∷ below) = length top.stack < stack_limit W top.method

abbrev pub ResultFits : Program → Move → Type 0
ResultFits W (move.Asks id args frames heap) = may_give (native_of W id) ≡ true → HasRoom W frames
ResultFits W other = Unit {0}

-- The next instruction isn't stuck and has room for what it leaves on the stack, so has the result of a built-in method that it calls, and what
-- it gives away is a tree.
pub record IsReady (P W : Program) (heap : Objects) (top : Activation) (below : List Activation) : Type 0 where
  pub fine : IsFine W top below heap
  pub result : ResultFits W (moves W top below heap)
  pub gives : (id : MethodId) (args : List Value) (after : List Activation) (k : Objects) → moves W top below heap ≡ move.Asks id args after k → (root : Root) (m : ℕ) → given (native_of W id) args ≡ Some (root, m) → IsGiven P root heap m

-- an object that is in the heap
abbrev pub IsObject : Objects → Value → Type 0
IsObject h v = (m : ℕ) × (o : Object) × (v ≡ Ref m) × (get h m ≡ Some o)
