-- Mailboxes with a bound at their edges: each fact beside its neighbour, where something else happens.
use Rattle.std.specs.Prelude.{◌≡◌, ℕ, suc, pos, negsuc, true, false, List, [], ◌∷◌, ◌++◌, Option, Some, None, length}
use Rattle.kilim_program.specs.declared.names.BoxName.{BoxName}
use Rattle.kilim_program.specs.declared.value.Value.TheVariants as value
use Rattle.kilim_run_state.specs.declared.cause.EndCause.TheVariants.{Full, Large, Null, Size}
use Rattle.kilim_run_state.specs.declared.value.Token.{Token}
use Rattle.kilim_run_state.specs.Machine.{Activation}
use Rattle.kilim_run_state.specs.Shapes.{shape_of}
use Rattle.kilim_run_machine.specs.Natives as native
use Rattle.kilim_run_journal.specs.declared.entry.Act.TheVariants.{Bound, End, Put}
use Rattle.kilim_run_model.specs.State.{Setting, Mailbox, empty_mailbox, with_message, with_queue, bounded, is_full, Alive, State}
use Rattle.kilim_run_model.specs.Lone.{Lone, Next, Puts, PutWaits, Bounds, ended, over, raised, native_next, next_move}
use Rattle.kilim_run_model.specs.Turn.{acted, quiet, puts, lone_of, with_lone, moved_by}
use Rattle.kilim_run_model.specs.Runs.{waits_at}

-- ---- full

-- One without a bound is never full. One of bound 2 isn't with one message, and is with two; a take makes room for one more.
abbrev pub one : Mailbox ℕ
one = with_message (bounded empty_mailbox 2) 7

abbrev pub two : Mailbox ℕ
two = with_message one 8

abbrev pub new_of_one : Mailbox ℕ
new_of_one = bounded empty_mailbox 1

abbrev pub WhenFull : Type 0
WhenFull =
    ((puts : ℕ) (queue : List (ℕ × ℕ)) → is_full {A = ℕ} (record { most = None; puts = puts; queue = queue }) ≡ false)
    × (is_full new_of_one ≡ false)
    × (is_full one ≡ false)
    × (is_full two ≡ true)
    × (is_full (with_queue two ((1, 8) ∷ [])) ≡ false)

-- a bound changes neither the count of puts nor the messages
abbrev pub BoundAlone : Type 0
BoundAlone = (m : Mailbox ℕ) (most : ℕ) → ((bounded m most).most ≡ Some most) × ((bounded m most).puts ≡ m.puts) × ((bounded m most).queue ≡ m.queue)

-- ---- the constructor

-- the least bound is 1; 0 and what is below it are raised
abbrev pub LeastBound : Type 0
LeastBound = (setting : Setting) (after : Lone) (box : BoxName) →
    (native_next setting after native.Bound (value.Box box ∷ value.Int (pos 1) ∷ []) ≡ Bounds box 1 after)
    × (native_next setting after native.Bound (value.Box box ∷ value.Int (pos 2147483647) ∷ []) ≡ Bounds box 2147483647 after)
    × (native_next setting after native.Bound (value.Box box ∷ value.Int (pos 0) ∷ []) ≡ raised setting.program after Size)
    × (native_next setting after native.Bound (value.Box box ∷ value.Int (negsuc 0) ∷ []) ≡ raised setting.program after Size)

-- it is an action, which says the mailbox and the bound
abbrev pub BoundIsAnAction : Type 0
BoundIsAnAction = (setting : Setting) (s : State) (t : ℕ) (box : BoxName) (most : ℕ) (after : Lone) → (moved_by setting s t (Bounds box most after)).act ≡ Some (Bound box most)

-- ---- puts

-- A put at a full mailbox ends its task, and puts nothing; one that waits doesn't move. At one that isn't full both put the same.
abbrev pub PutsWhereFull : Type 0
PutsWhereFull = (setting : Setting) (s : State) (t : ℕ) (box : BoxName) (root : ℕ) (shape : List Token) (after : Lone) →
    (is_full (s.mailboxes box) ≡ true → moved_by setting s t (Puts box root shape after) ≡ acted (with_lone s t (ended after Full)) (End Full))
    × (is_full (s.mailboxes box) ≡ true → moved_by setting s t (PutWaits box root shape after) ≡ quiet s)
    × (is_full (s.mailboxes box) ≡ false → moved_by setting s t (Puts box root shape after) ≡ puts (with_lone s t after) box root shape)
    × (is_full (s.mailboxes box) ≡ false → moved_by setting s t (PutWaits box root shape after) ≡ puts (with_lone s t after) box root shape)

-- A null is raised and too large a tree ends the task, before anything is asked of the mailbox: of both puts.
abbrev pub NullThenLargeThenFull : Type 0
NullThenLargeThenFull = (setting : Setting) (after : Lone) (box : BoxName) (n : ℕ) →
    (native_next setting after native.PutWait (value.Box box ∷ value.Null ∷ []) ≡ raised setting.program after Null)
    × (shape_of setting.program after.heap n ≡ None → native_next setting after native.PutWait (value.Box box ∷ value.Ref n ∷ []) ≡ over after Large)
    × (shape_of setting.program after.heap n ≡ None → native_next setting after native.Put (value.Box box ∷ value.Ref n ∷ []) ≡ over after Large)
    × ((shape : List Token) → shape_of setting.program after.heap n ≡ Some shape → native_next setting after native.PutWait (value.Box box ∷ value.Ref n ∷ []) ≡ PutWaits box n shape after)

-- A put leaves the other threads as they are, and a full mailbox full: it wakes nobody who waits to put.
abbrev pub PutMakesNoRoom : Type 0
PutMakesNoRoom = (s : State) (box : BoxName) (root : ℕ) (shape : List Token) (m : Mailbox ℕ) →
    ((puts s box root shape).state.threads ≡ s.threads) × (is_full m ≡ true → is_full (with_message m root) ≡ true)

-- ---- who waits

-- A thread at a put that waits: on a full mailbox, and on one that isn't; at a put that doesn't wait; and one that has no instructions left.
abbrev pub WhoWaitsToPut : Type 0
WhoWaitsToPut = (setting : Setting) (s : State) (t : ℕ) (box : BoxName) (root : ℕ) (shape : List Token) (frames : List Activation) (done boxes : ℕ) (after : Lone) →
    (next_move setting t (lone_of s t (Alive frames done boxes)) ≡ PutWaits box root shape after → is_full (s.mailboxes box) ≡ true → waits_at setting s t (Alive frames done boxes) ≡ Some box)
    × (next_move setting t (lone_of s t (Alive frames done boxes)) ≡ PutWaits box root shape after → is_full (s.mailboxes box) ≡ false → waits_at setting s t (Alive frames done boxes) ≡ None)
    × (next_move setting t (lone_of s t (Alive frames done boxes)) ≡ Puts box root shape after → waits_at setting s t (Alive frames done boxes) ≡ None)

pub record BoundsAtEdges : Type 0 where
  pub when_full : WhenFull
  pub bound_alone : BoundAlone
  pub least_bound : LeastBound
  pub bound_is_an_action : BoundIsAnAction
  pub puts_where_full : PutsWhereFull
  pub null_then_large_then_full : NullThenLargeThenFull
  pub put_makes_no_room : PutMakesNoRoom
  pub who_waits_to_put : WhoWaitsToPut
