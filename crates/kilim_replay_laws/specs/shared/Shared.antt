-- Threads of verified code over one heap, from which nothing is removed.
use Rattle.std.specs.Prelude.{◌≡◌, ◌<◌, ◌≤◌, ◌+◌, ℕ, true, List, [], ◌∷◌, Some, None, slice_get, length}
use Rattle.std.specs.FinMap.{get}
use Rattle.kilim_program.specs.Program.{Program}
use Rattle.kilim_program.specs.BuiltIn.{class_type}
use Rattle.kilim_program.specs.declared.names.BoxName.{BoxName}
use Rattle.kilim_program.specs.declared.names.MethodId.{MethodId}
use Rattle.kilim_program.specs.declared.ty.Ty.{Ty}
use Rattle.kilim_program.specs.declared.value.Value.{Value}
use Rattle.kilim_program.specs.declared.value.Value.TheVariants.{Ref}
use Rattle.kilim_program.specs.Members.{execute_of}
use Rattle.kilim_run_state.specs.declared.value.Object.{Object}
use Rattle.kilim_run_state.specs.Machine.{Objects, Activation}
use Rattle.kilim_run_machine.specs.Moves.{Move, moves}
use Rattle.kilim_run_machine.specs.Moves as move
use Rattle.kilim_run_machine.specs.Natives.{Start, native_of}
use Rattle.kilim_type_sound.specs.Fits.{Classes, Typing, Wanted, Nothing, FramesFit, HeapFits, AreThere, is_of}
use Rattle.kilim_run_model.specs.State.{Setting, Thread, Alive, State, begun_on, execute_frames, is_fit, first_state}
use Rattle.kilim_run_model.specs.Lone.{Lone, Stands, asks_next}
use Rattle.kilim_run_model.specs.Turn.{lone_of, moved}
use Rattle.kilim_isolation_laws.specs.typed_threads.fine.Typed.{IsVerified, frames_of}
use Rattle.kilim_run_trees.specs.Shaping.{AllSuit}
use Rattle.kilim_run_trees.specs.Walk.{AllThere}
use Rattle.kilim_fiber_spec.specs.fiber_kin.Served.{IsFineThread}

-- what is in the one is in the other
abbrev pub AllIn : Objects → Objects → Type 0
AllIn h k = (n : ℕ) (o : Object) → get h n ≡ Some o → (q : Object) × (get k n ≡ Some q)

abbrev pub MoveKeeps : Objects → Move → Type 0
MoveKeeps h (move.Runs change frames k) = AllIn h k
MoveKeeps h (move.Makes object frames k) = AllIn h k
MoveKeeps h (move.Opens frames k) = AllIn h k
MoveKeeps h (move.Asks m args frames k) = AllIn h k
MoveKeeps h (move.Returns k) = AllIn h k
MoveKeeps h m = Unit {0}

abbrev pub HeapsStay : Type 0
HeapsStay = (p : Program) (top : Activation) (below : List Activation) (h : Objects) → MoveKeeps h (moves p top below h)

-- ---- one heap

-- each name that there was is in the heap
abbrev pub IsFull : Objects → ℕ → Type 0
IsFull h next = (n : ℕ) → n < next → (o : Object) × (get h n ≡ Some o)

abbrev pub AreOf : Program → Classes → Ty → List (ℕ × ℕ) → Type 0
AreOf p of ty [] = Unit {0}
AreOf p of ty (e ∷ es) = (is_of p (of e.1) ty ≡ true) × AreOf p of ty es

-- All threads fit the frames of verification, with one class for each name of the one heap; what waits in a mailbox is a message.
pub record SharedFits (set : Setting) (typing : Typing) (live : Wanted) (is : IsVerified set typing live) (of : Classes) (s : State) : Type 0 where
  pub threads : (t : ℕ) (th : Thread) → slice_get s.threads t ≡ Some th → FramesFit set.program typing live of Nothing (frames_of th)
  pub heap : HeapFits set.program of s.heap
  pub full : IsFull s.heap s.next
  pub fresh : (n : ℕ) → s.next ≤ n → of n ≡ None
  pub kept : (n : ℕ) → s.kept ≡ Some n → of n ≡ Some (class_type set.main.0)
  pub queued : (box : BoxName) → AreOf set.program of (class_type (length is.keeps.built_in.own_classes + 2)) (s.mailboxes box).queue

-- for some classes of the names
abbrev pub IsTypedState : (set : Setting) (typing : Typing) (live : Wanted) → IsVerified set typing live → State → Type 0
IsTypedState set typing live is s = (of : Classes) × SharedFits set typing live is of s

-- each object is as its class says, and all that is below one is there
pub record HeapServes (p : Program) (h : Objects) : Type 0 where
  pub suits : AllSuit p h
  pub there : (n : ℕ) (o : Object) → get h n ≡ Some o → AllThere h n

-- the arguments of a built-in method that is called are there
abbrev pub AskedAreThere : Objects → Move → Type 0
AskedAreThere h (move.Asks m args frames k) = AreThere h args
AskedAreThere h m = Unit {0}

-- A call of a built-in method comes to something, whatever there is behind it: its arguments are those of its declared types, and a
-- receiver isn't null. What is started has a method to begin with.
pub record IsFineCall (set : Setting) (h : Objects) (m : MethodId) (args : List Value) : Type 0 where
  pub never : (after : Lone) → asks_next set after args (native_of set.program m) ≡ Stands → ⊥
  pub begins : (root : ℕ) → native_of set.program m ≡ Some Start → args ≡ Ref root ∷ [] → execute_frames set.program h root ≡ None → ⊥

abbrev pub AskedIsFine : Setting → Objects → Move → Type 0
AskedIsFine set h (move.Asks m args frames k) = IsFineCall set h m args
AskedIsFine set h m = Unit {0}

-- A thread that isn't stuck at its next instruction, nor at a built-in method, on a heap whose trees can be shown. The main class has a
-- method `execute`.
pub record Serves (set : Setting) (l : Lone) : Type 0 where
  pub fine : IsFineThread set l
  pub heap : HeapServes set.program l.heap
  pub asked : (top : Activation) (below : List Activation) (done boxes : ℕ) → l.thread ≡ Alive (top ∷ below) done boxes → AskedAreThere l.heap (moves set.program top below l.heap)
  pub calls : (top : Activation) (below : List Activation) (done boxes : ℕ) → l.thread ≡ Alive (top ∷ below) done boxes → AskedIsFine set l.heap (moves set.program top below l.heap)
  pub executes : (n : ℕ) → begun_on set.program (execute_of set.program set.main) n ≡ None → ⊥

-- A verified program, whether the isolation rules accept it or not: it begins so, each move of each thread keeps it, and no thread is
-- stuck at its next instruction or a built-in method.
pub record SharedStays (set : Setting) (typing : Typing) (live : Wanted) (is : IsVerified set typing live) : Type 0 where
  pub first : IsTypedState set typing live is (first_state set)
  pub moves : (s : State) (t : ℕ) → IsTypedState set typing live is s → IsTypedState set typing live is (moved set s t).state
  pub serves : (s : State) (t : ℕ) (th : Thread) → IsTypedState set typing live is s → slice_get s.threads t ≡ Some th → Serves set (lone_of s t th)

abbrev pub VerifiedIsShared : Type 0
VerifiedIsShared = (set : Setting) (typing : Typing) (live : Wanted) (is : IsVerified set typing live) → is_fit set ≡ true → SharedStays set typing live is
