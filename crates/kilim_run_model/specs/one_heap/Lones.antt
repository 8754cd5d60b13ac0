-- A thread on a heap of its own, and the same thread on a heap that it shares with others: the same but for the names of
-- objects.
use Rattle.std.specs.Prelude.{None, ◌≡◌, ◌⊎◌, ◌<◌, ◌≤◌, ℕ, List, [], ◌∷◌, Some}
use Rattle.kilim_program.specs.Program.{Program}
use Rattle.kilim_run_state.specs.declared.value.Token.{Token}
use Rattle.kilim_run_state.specs.Machine.{Objects}
use Rattle.kilim_run_machine.specs.Natives.{native_of}
use Rattle.kilim_run_machine.specs.Moves.{Move, moves}
use Rattle.kilim_run_machine.specs.Moves as move
use Rattle.kilim_run_state.specs.Shapes.{shape_of}
use Rattle.kilim_run_state.specs.Trees.{Root, OfMessage, OfTask}
use Rattle.kilim_run_model.specs.State.{Setting, Thread, Alive, Ended}
use Rattle.kilim_run_model.specs.Lone.{Lone, Next, Goes, Puts, PutWaits, Bounds, Gets, Probes, Starts, Prints, Ends, Stands}
use Rattle.kilim_run_model.specs.Kept.{given}
use Rattle.kilim_run_model.specs.kin.Kin.{Names, Owner, OfNobody, FramesKin, NameKin, Alike, AreHeld, IsThere}
use Rattle.kilim_run_model.specs.kin.Kin as owned
use Rattle.kilim_run_model.specs.kin.trees.TreeKin.{IsWholeTree}

-- the same frames but for names, and the same counts
abbrev pub ThreadKin : Names → Thread → Thread → Type 0
ThreadKin of (Alive fs d b) (Alive gs e c) = FramesKin of fs gs × (d ≡ e) × (b ≡ c)
ThreadKin of (Ended c) (Ended d) = c ≡ d
ThreadKin of a b = ⊥

-- The first has its heap for itself. In the second's heap `owner` says whose each object is; it was `k0` before the
-- thread moved.
pub record LonesKin (of : Names) (owner : ℕ → Owner) (t : ℕ) (k0 : Objects) (a b : Lone) : Type 0 where
  pub threads : ThreadKin of a.thread b.thread
  pub heaps : Alike of owner t k0 a.heap b.heap
  pub kept : NameKin of a.kept b.kept
  pub below : (n x : ℕ) → of n ≡ Some x → n < a.next
  pub free : (x : ℕ) → b.next ≤ x → owner x ≡ OfNobody
  -- only task 0 keeps an object
  pub keeps : (t ≡ 0 → ⊥) → b.kept ≡ None

-- the same after a move, in which objects that nobody had may have become the thread's
pub record Onward (owner : ℕ → Owner) (t : ℕ) (k0 : Objects) (a b : Lone) : Type 0 where
  pub of : Names
  pub later : ℕ → Owner
  pub only : (x : ℕ) → (later x ≡ owner x) ⊎ ((owner x ≡ OfNobody) × (later x ≡ owned.OfTask t))
  pub kin : LonesKin of later t k0 a b

-- the same right before an action, in which nothing has changed its owner yet
pub record Before (owner : ℕ → Owner) (t : ℕ) (k0 : Objects) (a b : Lone) : Type 0 where
  pub of : Names
  pub kin : LonesKin of owner t k0 a b

-- and right before a tree is given away
pub record Giving (p : Program) (root : Root) (owner : ℕ → Owner) (t : ℕ) (k0 : Objects) (n m : ℕ) (shape : List Token) (a b : Lone) : Type 0 where
  pub of : Names
  pub kin : LonesKin of owner t k0 a b
  pub named : of n ≡ Some m
  pub whole : IsWholeTree p root a.heap n
  pub has : shape_of p a.heap n ≡ Some shape

-- the same next move
abbrev pub NextKin : Program → (ℕ → Owner) → ℕ → Objects → Next → Next → Type 0
NextKin p owner t k0 (Goes a) (Goes b) = Onward owner t k0 a b
NextKin p owner t k0 (Puts box n shape a) (Puts other m again b) = (box ≡ other) × (shape ≡ again) × Giving p OfMessage owner t k0 n m shape a b
NextKin p owner t k0 (PutWaits box n shape a) (PutWaits other m again b) = (box ≡ other) × (shape ≡ again) × Giving p OfMessage owner t k0 n m shape a b
NextKin p owner t k0 (Bounds box most a) (Bounds other least b) = (box ≡ other) × (most ≡ least) × Before owner t k0 a b
NextKin p owner t k0 (Gets box a) (Gets other b) = (box ≡ other) × Before owner t k0 a b
NextKin p owner t k0 (Probes box a) (Probes other b) = (box ≡ other) × Before owner t k0 a b
NextKin p owner t k0 (Starts n shape a) (Starts m again b) = (shape ≡ again) × Giving p OfTask owner t k0 n m shape a b
NextKin p owner t k0 (Prints token a) (Prints again b) = (token ≡ again) × Before owner t k0 a b
NextKin p owner t k0 (Ends cause a) (Ends why b) = (cause ≡ why) × Before owner t k0 a b
NextKin p owner t k0 Stands Stands = Unit {0}
NextKin p owner t k0 x y = ⊥

-- ---- what has to be known of the thread on its own heap

abbrev pub WholeMove : Program → Objects → Move → Type 0
WholeMove p h (move.Asks m args frames heap) = (root : Root) (n : ℕ) → given (native_of p m) args ≡ Some (root, n) → IsWholeTree p root h n
WholeMove p h other = Unit {0}

-- What stands on the stack of the top frame is in the heap, and what it gives away next is a whole tree. A thread that has
-- done all of its instructions gives nothing away any more.
abbrev pub IsWholeThread : Setting → Objects → Thread → Type 0
IsWholeThread setting h (Ended cause) = Unit {0}
IsWholeThread setting h (Alive [] done boxes) = Unit {0}
IsWholeThread setting h (Alive (top ∷ below) done boxes) = done < setting.limits.steps → AreHeld (IsThere h) top.stack × WholeMove setting.program h (moves setting.program top below h)
