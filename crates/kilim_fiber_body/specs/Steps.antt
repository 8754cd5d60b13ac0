-- What is known where a body runs.
use Rattle.std.specs.Prelude.{◌≡◌, ◌<◌, ℕ, Bool, true, false, List, [], ◌∷◌, Some, length}
use Rattle.std.specs.FinMap.{get}
use Rattle.kilim_program.specs.declared.names.ClassId.{ClassId}
use Rattle.kilim_program.specs.declared.value.Value.{Value}
use Rattle.kilim_program.specs.declared.value.Value.TheVariants.{Ref}
use Rattle.kilim_program.specs.Program.{Program}
use Rattle.kilim_run_state.specs.declared.run.Limits.{Limits}
use Rattle.kilim_run_state.specs.declared.value.Object.{Object}
use Rattle.kilim_run_state.specs.Machine.{Objects, Activation}
use Rattle.kilim_run_machine.specs.Moves.{Move, moves}
use Rattle.kilim_run_machine.specs.Moves as move
use Rattle.kilim_run_machine.specs.Natives.{native_of}
use Rattle.kilim_run_state.specs.Trees.{Root}
use Rattle.kilim_run_model.specs.Kept.{given}
use Rattle.kilim_run_model.specs.State.{Setting}
use Rattle.kilim_run_interp.specs.Run.{IsFine}
use Rattle.kilim_run_interp.specs.Step.{stack_limit}
use Rattle.kilim_fiber_spec.specs.Fibers.{first_receiver}
use Rattle.kilim_fiber_laws.specs.woven_kin.Standing.{Standing}
use Rattle.kilim_fiber_laws.specs.woven_kin.Alike.{HasFree, spends_at}
use Rattle.kilim_fiber_laws.specs.woven_kin.Nexts.{Stands, next_of}
use Rattle.kilim_fiber_body.specs.Comes.{CanGive, gives_result}
use Rattle.kilim_fiber_body.specs.declared.code.Code.{Code}

-- the frame has room for one value more
abbrev pub HasRoom : Program → List Activation → Type 0
HasRoom W [] = ⊥
HasRoom W (f ∷ fs) = length f.stack < stack_limit W f.method

-- of its next move: there is room for a result, and what is given away is a tree
abbrev pub MoveFits : Program → Program → Objects → Move → Type 0
MoveFits p W h (move.Asks m args frames heap) = (gives_result (native_of W m) ≡ true → HasRoom W frames) × ((root : Root) (n : ℕ) → given (native_of W m) args ≡ Some (root, n) → CanGive p h n)
MoveFits p W h m = Unit {0}

-- where it rests, the receiver of its first frame is an object that is there
abbrev pub ReceiverThere : Objects → Value → Type 0
ReceiverThere h (Ref n) = (o : Object) × (get h n ≡ Some o)
ReceiverThere h v = Unit {0}

-- What is known of it: unless it is spent, its next instruction isn't stuck and has room for what it leaves on the stack, there is room for a
-- result, and what is given away is a tree; and where it rests, the receiver of its first frame is there. It is never where no verified code comes.
pub record IsReadyAt (set : Setting) (W : Program) (marks : List (List Bool)) (t : ℕ) (m : Standing) : Type 0 where
  pub fine : (top : Activation) (below : List Activation) → m.frames ≡ top ∷ below → spends_at set W marks m top ≡ false → IsFine W top below m.heap
  pub fits : (top : Activation) (below : List Activation) → m.frames ≡ top ∷ below → spends_at set W marks m top ≡ false → MoveFits set.program W m.heap (moves W top below m.heap)
  pub rests : m.frames ≡ [] → ReceiverThere m.heap (first_receiver m.fiber)
  pub never : (free : ℕ) → HasFree set W marks t (record m { next = free }) → next_of set W marks t (record m { next = free }) ≡ Stands → ⊥

-- the setting of the code itself: shapes are told by the program that was woven
abbrev pub setting_of : Code → Limits → ClassId → Setting
setting_of code limits main = record { program = code.plain; main = main; limits = limits }
