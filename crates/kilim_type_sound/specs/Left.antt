-- What an exception that is caught leaves: everything that there was, but for the frames above the one that catches.
use Rattle.std.specs.Prelude.{◌≡◌, ℕ, List, ◌∷◌, ◌++◌, Some}
use Rattle.std.specs.FinMap.{get}
use Rattle.kilim_program.specs.declared.class.Handler.{Handler}
use Rattle.kilim_program.specs.declared.class.Method.{Method}
use Rattle.kilim_program.specs.declared.names.ClassId.{ClassId}
use Rattle.kilim_program.specs.declared.value.Value.{Value}
use Rattle.kilim_program.specs.declared.value.Value.TheVariants.{Ref}
use Rattle.kilim_program.specs.Names.{method_at}
use Rattle.kilim_program.specs.Program.{Program}
use Rattle.kilim_run_state.specs.declared.cause.EndCause.{EndCause}
use Rattle.kilim_run_state.specs.Machine.{Activation}
use Rattle.kilim_run_machine.specs.Raising.{IsEntry, lands, thrown, unwound}
use Rattle.kilim_run_model.specs.State.{Alive}
use Rattle.kilim_run_model.specs.Lone.{Goes, Lone, raised, raises_next, throws_by}

-- Of these frames, the top first, some are gone; the next one stands at a handler of its method, with its own locals and the object alone on
-- its stack; and those below it are as they were.
pub record IsLeft (p : Program) (thing : Value) (frames left : List Activation) : Type 0 where
  pub gone : List Activation
  pub catching : Activation
  pub rest : List Activation
  pub handler : Handler
  pub were : frames ≡ gone ++ (catching ∷ rest)
  pub method : Method
  pub there : method_at p catching.method ≡ Some method
  pub among : IsEntry method.handlers handler
  pub are : left ≡ lands catching thing handler ∷ rest

-- Each object that there was is as it was, and each name but that of the new object names what it did.
pub record RaisedLeaves (p : Program) (l : Lone) (frames : List Activation) (after : Lone) : Type 0 where
  pub heap : (name : ℕ) → (name ≡ l.next → ⊥) → get after.heap name ≡ get l.heap name
  pub left : List Activation
  pub done : ℕ
  pub boxes : ℕ
  pub thread : after.thread ≡ Alive left done boxes
  pub is_left : IsLeft p (Ref l.next) frames left

pub record CaughtLeaves : Type 0 where
  -- an object is thrown
  pub thrown_frames : (p : Program) (c : ClassId) (thing : Value) (top f : Activation) (below fs : List Activation) → thrown p c thing top below ≡ f ∷ fs → IsLeft p thing (top ∷ below) (f ∷ fs)
  pub unwound_frames : (p : Program) (c : ClassId) (thing : Value) (frames : List Activation) (f : Activation) (fs : List Activation) → unwound p c thing frames ≡ f ∷ fs → IsLeft p thing frames (f ∷ fs)
  -- the heap is as it was
  pub thrown_heap : (l : Lone) (why : EndCause) (done boxes : ℕ) (left : List Activation) (after : Lone) → throws_by l why done boxes left ≡ Goes after → after.heap ≡ l.heap
  -- something is raised at an instruction, and behind the call of a built-in method
  pub raised_at : (p : Program) (l : Lone) (done boxes : ℕ) (top : Activation) (below : List Activation) (why : EndCause) (after : Lone) → raises_next p l done boxes top below why ≡ Goes after → RaisedLeaves p l (top ∷ below) after
  pub raised_behind : (p : Program) (l : Lone) (frames : List Activation) (done boxes : ℕ) (why : EndCause) (after : Lone) → raised p (record l { thread = Alive frames done boxes }) why ≡ Goes after → RaisedLeaves p l frames after
