-- What a task began with and did, and the thread on a heap of its own that did it.
use Rattle.std.specs.Prelude.{◌≡◌, ℕ, zero, suc, ◌+◌, Bool, true, false, List, [], ◌∷◌, Option, Some, None, length}
use Rattle.std.specs.FinMap.{empty, insert}
use Rattle.kilim_run_state.specs.declared.cause.EndCause.TheVariants as cause
use Rattle.kilim_program.specs.Program.{Program}
use Rattle.kilim_program.specs.declared.names.BoxName.{BoxName}
use Rattle.kilim_run_state.specs.declared.value.Object.{Object}
use Rattle.kilim_run_state.specs.declared.value.Token.{Token}
use Rattle.kilim_program.specs.declared.value.Value.TheVariants.{Null, Ref}
use Rattle.kilim_run_journal.specs.declared.entry.Act.{Act}
use Rattle.kilim_run_journal.specs.declared.entry.Act.TheVariants.{Bound, Put, Take, Empty, Start, Print, End}
use Rattle.kilim_run_state.specs.Machine.{Objects, Activation}
use Rattle.kilim_program.specs.Members.{constructor_of}
use Rattle.kilim_run_state.specs.Objects.{new_object}
use Rattle.kilim_run_state.specs.Trees.{tree_names, without, with_objects, built, OfMessage, OfTask}
use Rattle.kilim_run_model.specs.State.{Setting, Alive, begun_on, execute_frames}
use Rattle.kilim_run_model.specs.Lone.{Lone, Next, Goes, Puts, PutWaits, Bounds, Gets, Probes, Starts, Prints, Ends, Stands, pushed, ended, next_move, get_at}
use Rattle.kilim_run_model.specs.declared.waits.Waits.{Waits}
pub use Rattle.kilim_run_model.specs.declared.deed.Deed.{Deed}
pub use Rattle.kilim_run_model.specs.declared.deed.Beginning.{Beginning}
use Rattle.kilim_run_model.specs.declared.deed.Beginning.TheVariants.{Boot, Begun}

pub record Course : Type 0 where
  pub beginning : Beginning
  pub deeds : List Deed

-- an act with no shape beside it
abbrev pub plain : Act → Deed
plain act = record { act = act; taken = [] }

-- ---- trees that come and leave

-- a taken tree: it comes under names that the heap never had, and the root's name goes on top of the stack
abbrev pub received : Lone → List Object → Lone
received l objects = pushed (Ref l.next) (record l { heap = with_objects l.heap l.next objects; next = l.next + length objects })

-- a tree that is put or started leaves the heap
abbrev pub tree_left : Program → ℕ → Lone → Lone
tree_left p root l = record l { heap = without l.heap (tree_names p l.heap root) }

-- ---- the thread at its beginning

abbrev pub lone_in : Objects → ℕ → Option ℕ → Option (List Activation) → Option Lone
lone_in heap next kept None = None
lone_in heap next kept (Some frames) = Some (record { heap = heap; next = next; thread = Alive frames 0 0; kept = kept })

abbrev pub lone_built : Program → Option (List Object) → Option Lone
lone_built p None = None
lone_built p (Some objects) = lone_in (with_objects empty 0 objects) (length objects) None (execute_frames p (with_objects empty 0 objects) 0)

-- Task 0 has one new object of the main class. A started one has a tree of that shape, where the declared types allow one.
abbrev pub lone_begun : Setting → Beginning → Option Lone
lone_begun setting Boot = lone_in (insert empty 0 (new_object setting.program setting.main)) 1 (Some 0) (begun_on setting.program (constructor_of setting.program setting.main) 0)
lone_begun setting (Begun shape) = lone_built setting.program (built setting.program OfTask 0 shape)

-- ---- up to its next action

abbrev pub next_or : Next → (Lone → Next) → Next
next_or (Goes after) go = go after
next_or next go = next

abbrev pub next_within : Setting → ℕ → ℕ → Lone → Next
next_within setting t zero l = Stands
next_within setting t (suc n) l = next_or (next_move setting t l) (next_within setting t n)

-- Each move without an action counts an instruction, so a thread is spent after as many of them as it may do (the law
-- `next_comes`).
unfoldable pub next_action : Setting → ℕ → Lone → Next
next_action setting t l = next_within setting t (suc setting.limits.steps) l

-- what the thread may have to wait for once it has run to its next action, whatever the mailbox holds
unfoldable pub stands_at : Setting → ℕ → Lone → Option Waits
stands_at setting t l = get_at (next_action setting t l)

-- ---- an action

-- What is done, and where it leads, with what others decide read from a deed: the number of a put or a start, whether a
-- probe finds a message, and whether a start ends for want of tasks.
pub record Done : Type 0 where
  pub act : Act
  pub after : Lone

abbrev pub did : Act → Lone → Option Done
did act after = Some (record { act = act; after = after })

-- the message that is taken is one that the declared types allow
abbrev pub tree_came : BoxName → ℕ → Lone → Option (List Object) → Option Done
tree_came box n l None = None
tree_came box n l (Some objects) = did (Take box n) (received l objects)

abbrev pub takes_deed : Program → BoxName → Lone → Deed → Act → Option Done
takes_deed p box l d (Take b n) = tree_came box n l (built p OfMessage l.next d.taken)
takes_deed p box l d act = None

abbrev pub probes_deed : Program → BoxName → Lone → Deed → Act → Option Done
probes_deed p box l d (Empty b) = did (Empty box) (pushed Null l)
probes_deed p box l d act = takes_deed p box l d act

abbrev pub puts_deed : Program → BoxName → ℕ → List Token → Lone → Act → Option Done
puts_deed p box root shape l (Put b n s) = did (Put box n shape) (tree_left p root l)
puts_deed p box root shape l act = None

-- a `put`, which a full mailbox ends
abbrev pub fills_deed : Program → BoxName → ℕ → List Token → Lone → Act → Option Done
fills_deed p box root shape l (Put b n s) = did (Put box n shape) (tree_left p root l)
fills_deed p box root shape l (End why) = did (End cause.Full) (ended l cause.Full)
fills_deed p box root shape l act = None

abbrev pub starts_deed : Program → ℕ → List Token → Lone → Act → Option Done
starts_deed p root shape l (Start n s) = did (Start n shape) (tree_left p root l)
starts_deed p root shape l (End why) = did (End cause.Tasks) (ended l cause.Tasks)
starts_deed p root shape l act = None

abbrev pub done_by : Setting → Next → Deed → Option Done
done_by setting (Goes l) d = None
done_by setting (Puts box root shape l) d = fills_deed setting.program box root shape l d.act
done_by setting (PutWaits box root shape l) d = puts_deed setting.program box root shape l d.act
done_by setting (Bounds box most l) d = did (Bound box most) l
done_by setting (Gets box l) d = takes_deed setting.program box l d d.act
done_by setting (Probes box l) d = probes_deed setting.program box l d d.act
done_by setting (Starts root shape l) d = starts_deed setting.program root shape l d.act
done_by setting (Prints token l) d = did (Print (token ∷ [])) l
done_by setting (Ends cause l) d = did (End cause) l
done_by setting Stands d = None

-- ---- along its deeds

-- each deed is what the thread does next
abbrev pub Follows : Setting → ℕ → Lone → List Deed → Lone → Type 0
Follows setting t l [] last = l ≡ last
Follows setting t l (d ∷ ds) last =
    (mid : Lone) × (done_by setting (next_action setting t l) d ≡ Some (record { act = d.act; after = mid })) × Follows setting t mid ds last

-- the thread of a task right after the last deed of its course
pub record IsLone (setting : Setting) (t : ℕ) (c : Course) (last : Lone) : Type 0 where
  pub first : Lone
  pub begins : lone_begun setting c.beginning ≡ Some first
  pub follows : Follows setting t first c.deeds last

-- after further moves without an action
pub data Quiet (setting : Setting) (t : ℕ) (a : Lone) : Lone → Type 0 where
  Stays : {b : Lone} → a ≡ b → Quiet setting t a b
  Moves : {c : Lone} (b : Lone) → Quiet setting t a b → next_move setting t b ≡ Goes c → Quiet setting t a c

-- the last deed is an end
abbrev pub is_end : Act → Bool
is_end (End cause) = true
is_end act = false

abbrev pub ends_in : List Deed → Bool
ends_in [] = false
ends_in (d ∷ []) = is_end d.act
ends_in (d ∷ e ∷ ds) = ends_in (e ∷ ds)

abbrev pub has_ended : Course → Bool
has_ended c = ends_in c.deeds
