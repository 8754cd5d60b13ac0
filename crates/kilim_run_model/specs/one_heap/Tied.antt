-- Threads over one heap, and the same threads with heaps of their own.
use Rattle.std.specs.Prelude.{◌≡◌, ◌≤◌, ℕ, suc, List, [], ◌∷◌, Option, Some, None, length, slice_get}
use Rattle.kilim_program.specs.Program.{Program}
use Rattle.kilim_program.specs.declared.names.BoxName.{BoxName}
use Rattle.kilim_run_state.specs.declared.value.Token.{Token}
use Rattle.kilim_run_state.specs.Machine.{Objects}
use Rattle.kilim_run_state.specs.Trees.{OfMessage}
use Rattle.kilim_run_model.specs.State.{Setting, Thread, State, Mailbox}
use Rattle.kilim_run_model.specs.Lone.{Lone}
use Rattle.kilim_run_model.specs.Turn.{Moved, lone_of}
use Rattle.kilim_run_model.specs.Kept.{IsIn}
use Rattle.kilim_run_model.specs.kin.Kin.{Names, Owner, OfPlace, OfNobody}
use Rattle.kilim_run_model.specs.kin.trees.TreeKin.{IsTree}
use Rattle.kilim_run_model.specs.one_heap.Lones.{LonesKin, IsWholeThread}
use Rattle.kilim_run_model.specs.one_heap.Parted.{Parted, Parting}

-- a thread of the shared machine, and the one with a heap of its own
abbrev pub Party : (ℕ → Owner) → State → ℕ → Option Lone → Option Thread → Type 0
Party owner s t None None = Unit {0}
Party owner s t (Some l) (Some thread) = (of : Names) × LonesKin of owner t s.heap l (lone_of s t thread)
Party owner s t l thread = ⊥

-- A queue of names, and that of shapes; the numbers go up one by one to that of the next put. Each name is the root of a tree
-- of that shape, whose objects are the place's.
abbrev pub Queued : Program → (ℕ → Owner) → Objects → BoxName → ℕ → ℕ → List (ℕ × List Token) → List (ℕ × ℕ) → Type 0
Queued p owner k box end i [] [] = i ≡ end
Queued p owner k box end i (a ∷ rest) (b ∷ bs) =
    ((a.0 ≡ i) × (b.0 ≡ i)
    × ((xs : List ℕ) × IsTree p OfMessage k (b.1 ∷ xs) a.1 × ((x : ℕ) → IsIn x (b.1 ∷ xs) → owner x ≡ OfPlace box i)))
    × Queued p owner k box end (suc i) rest bs
Queued p owner k box end i rest bs = ⊥

pub record Boxes (p : Program) (owner : ℕ → Owner) (k : Objects) (box : BoxName) (shapes : Mailbox (List Token)) (names : Mailbox ℕ) : Type 0 where
  pub most : shapes.most ≡ names.most
  pub counts : shapes.puts ≡ names.puts
  pub first : ℕ
  pub queued : Queued p owner k box names.puts first shapes.queue names.queue

-- the same of all threads and mailboxes, where each object is its owner's
pub record TiedBy (set : Setting) (owner : ℕ → Owner) (m : Parted) (s : State) : Type 0 where
  pub fresh : (x : ℕ) → s.next ≤ x → owner x ≡ OfNobody
  pub count : length m.lones ≡ length s.threads
  pub parties : (t : ℕ) → Party owner s t (slice_get m.lones t) (slice_get s.threads t)
  pub boxes : (box : BoxName) → Boxes set.program owner s.heap box (m.mailboxes box) (s.mailboxes box)
  pub journal : m.journal ≡ s.journal

-- the threads of the one heap are those of the many heaps, but for the names of objects
pub record Tied (set : Setting) (m : Parted) (s : State) : Type 0 where
  pub owner : ℕ → Owner
  pub by : TiedBy set owner m s

-- one move of the parted machine, and one of the shared machine
abbrev pub Match : Setting → Parting → Moved → Type 0
Match set a b = (a.act ≡ b.act) × Tied set a.state b.state
