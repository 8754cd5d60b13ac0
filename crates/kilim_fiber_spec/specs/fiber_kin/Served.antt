-- What is known of a thread whose fiber does what it does.
use Rattle.std.specs.Prelude.{◌≡◌, ◌<◌, ℕ, Bool, true, false, List, ◌∷◌, Option, Some, length}
use Rattle.std.specs.List.{AllByRecursion}
use Rattle.std.specs.FinMap.{get}
use Rattle.kilim_run_state.specs.declared.value.Object.{Object}
use Rattle.kilim_run_state.specs.Machine.{Activation}
use Rattle.kilim_run_machine.specs.Moves.{Move, moves}
use Rattle.kilim_run_machine.specs.Moves as move
use Rattle.kilim_run_machine.specs.Natives.{Native, native_of}
use Rattle.kilim_run_machine.specs.Natives as native
use Rattle.kilim_run_model.specs.State.{Setting, Alive}
use Rattle.kilim_run_model.specs.Lone.{Lone}
use Rattle.kilim_run_interp.specs.Step.{stack_limit}
use Rattle.kilim_run_interp.specs.Run.{IsFine}
use Rattle.kilim_run_trees.specs.Shaping.{IsShown, held}

-- a built-in method whose result goes on top of the stack
abbrev pub gives_value : Option Native → Bool
gives_value (Some native.Get) = true
gives_value (Some native.Getnb) = true
gives_value (Some native.ArgCount) = true
gives_value (Some native.Arg) = true
gives_value n = false

-- the frame has room for one value more
abbrev pub HasRoom : Setting → List Activation → Type 0
HasRoom set (f ∷ fs) = length f.stack < stack_limit set.program f.method
HasRoom set fs = ⊥

abbrev pub ResultFits : Setting → Move → Type 0
ResultFits set (move.Asks m args frames heap) = gives_value (native_of set.program m) ≡ true → HasRoom set frames
ResultFits set m = Unit {0}

-- A thread that isn't stuck at an instruction, whose stacks have room for what comes on them, and whose objects hold no fiber.
pub record IsFineThread (set : Setting) (l : Lone) : Type 0 where
  pub steps : (top : Activation) (below : List Activation) (done boxes : ℕ) → l.thread ≡ Alive (top ∷ below) done boxes → done < set.limits.steps → IsFine set.program top below l.heap
  pub result : (top : Activation) (below : List Activation) (done boxes : ℕ) → l.thread ≡ Alive (top ∷ below) done boxes → done < set.limits.steps → ResultFits set (moves set.program top below l.heap)
  pub shown : (n : ℕ) (o : Object) → get l.heap n ≡ Some o → AllByRecursion IsShown (held o)
