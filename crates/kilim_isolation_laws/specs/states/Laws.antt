-- What a thread whose frames stand gives away is a tree, and its objects are as their classes declare.
use Rattle.std.specs.Prelude.{◌≡◌, ℕ, List, ◌∷◌, Some}
use Rattle.std.specs.FinMap.{get}
use Rattle.kilim_run_state.specs.declared.value.Object.{Object}
use Rattle.kilim_run_state.specs.Machine.{Activation}
use Rattle.kilim_run_machine.specs.Moves.{moves}
use Rattle.kilim_run_model.specs.State.{Setting, Alive}
use Rattle.kilim_run_model.specs.Lone.{Lone}
use Rattle.kilim_run_model.specs.Kept.{GivesTree, IsFormed}
use Rattle.kilim_type_laws.specs.Laws.{typing_at}
use Rattle.kilim_type_sound.specs.Fits.{Classes, Wanted}
use Rattle.kilim_isolation_laws.specs.typed_threads.fine.Typed.{FitsAs, IsVerified, StackIsThere}
use Rattle.kilim_isolation_laws.specs.reached_objects.graphs.Threads.{FramesFit, Listed, MoveFits}
use Rattle.kilim_isolation_laws.specs.tree_types.Laws.{AreNamedPlainly}

-- the frames stand with graphs that reach their places
abbrev pub FramesStand : Setting → Listed → Lone → Type 0
FramesStand set listed l = (frames : List Activation) (done boxes : ℕ) → l.thread ≡ Alive frames done boxes → FramesFit set.program (typing_at set.program) listed l.kept l.heap frames

-- so does what the next move leaves
abbrev pub MoveStands : Setting → Listed → Lone → Type 0
MoveStands set listed l = (top : Activation) (below : List Activation) (done boxes : ℕ) → l.thread ≡ Alive (top ∷ below) done boxes → MoveFits set.program (typing_at set.program) listed l.kept (moves set.program top below l.heap)

pub record GivesTrees (set : Setting) (l : Lone) : Type 0 where
  pub formed : (x : ℕ) (o : Object) → get l.heap x ≡ Some o → IsFormed set.program o
  pub gives : (top : Activation) (below : List Activation) (done boxes : ℕ) → l.thread ≡ Alive (top ∷ below) done boxes → GivesTree set.program l.heap (moves set.program top below l.heap)

abbrev pub StatesGive : Type 0
StatesGive = (set : Setting) (wanted : Wanted) (listed : Listed) (of : Classes) (l : Lone) → IsVerified set (typing_at set.program) wanted → AreNamedPlainly set.program → FitsAs set (typing_at set.program) wanted of l → StackIsThere l →
    FramesStand set listed l → MoveStands set listed l → GivesTrees set l
