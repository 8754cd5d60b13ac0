-- What the thread of a course does next, and which trees are messages.
use Rattle.std.specs.Prelude.{◌≡◌, ℕ, true, List, [], ◌∷◌, Option, Some, None}
use Rattle.std.specs.List.{AllByRecursion}
use Rattle.kilim_run_state.specs.declared.cause.EndCause.{EndCause}
use Rattle.kilim_run_state.specs.declared.cause.EndCause.TheVariants as cause
use Rattle.kilim_program.specs.Program.{Program}
use Rattle.kilim_program.specs.declared.names.BoxName.{BoxName}
use Rattle.kilim_run_state.specs.declared.value.Object.{Object}
use Rattle.kilim_run_state.specs.declared.value.Token.{Token}
use Rattle.kilim_run_state.specs.Shapes.{shape_of}
use Rattle.kilim_run_state.specs.Trees.{OfMessage, is_allowed}
use Rattle.kilim_run_model.specs.Kept.{IsFormed}
use Rattle.kilim_run_model.specs.State.{Setting}
use Rattle.kilim_run_model.specs.Lone.{Lone, Next, Goes, Puts, PutWaits, Bounds, Gets, Probes, Starts, Prints, Ends, Stands}
use Rattle.kilim_run_model.specs.Course.{Course, IsLone, next_action}
use Rattle.kilim_run_trees.specs.Moved.{tree_heap}
use Rattle.kilim_run_trees.specs.Shaping.{Suits}

-- a tree that is a message which the declared types allow, with its shape; each object is as its class declares it, and holds no
-- fiber
pub record IsMessage (p : Program) (tree : List Object) (shape : List Token) : Type 0 where
  pub has : shape_of p (tree_heap tree) 0 ≡ Some shape
  pub allowed : is_allowed p OfMessage shape ≡ true
  pub formed : AllByRecursion (IsFormed p) tree
  pub suits : AllByRecursion (Suits p) tree

-- an action, but for what others decide: whether a message is there, whether a mailbox is full, under which number a message stands,
-- which number a new task has
pub data Wish : Type 0 where
  ToPut : (box : BoxName) (shape : List Token) → Wish
  -- a put that waits where the mailbox is full
  ToPutWait : (box : BoxName) (shape : List Token) → Wish
  ToBound : (box : BoxName) (most : ℕ) → Wish
  ToTake : (box : BoxName) → Wish
  ToProbe : (box : BoxName) → Wish
  ToStart : (shape : List Token) → Wish
  ToPrint : (shape : List Token) → Wish
  ToEnd : (cause : EndCause) → Wish

-- no thread ends for want of tasks or of room in a mailbox by itself: that is decided at its start or put
abbrev pub end_wish : EndCause → Option Wish
end_wish cause.Tasks = None
end_wish cause.Full = None
end_wish why = Some (ToEnd why)

abbrev pub wish_of : Next → Option Wish
wish_of (Goes after) = None
wish_of (Puts box root shape after) = Some (ToPut box shape)
wish_of (PutWaits box root shape after) = Some (ToPutWait box shape)
wish_of (Bounds box most after) = Some (ToBound box most)
wish_of (Gets box after) = Some (ToTake box)
wish_of (Probes box after) = Some (ToProbe box)
wish_of (Starts root shape after) = Some (ToStart shape)
wish_of (Prints token after) = Some (ToPrint (token ∷ []))
wish_of (Ends why after) = end_wish why
wish_of Stands = None

-- the next action of that task's thread is this one
pub record Wishes (setting : Setting) (t : ℕ) (c : Course) (wish : Wish) : Type 0 where
  pub lone : Lone
  pub is : IsLone setting t c lone
  pub next : wish_of (next_action setting t lone) ≡ Some wish
