-- What threads over one heap, and threads on heaps of their own, have to do with each other.
use Rattle.std.specs.Prelude.{List, ◌++◌, true, false, None, Option, ◌≡◌, ℕ, Some, slice_get}
use Rattle.kilim_run_model.specs.State.{Setting, State, is_fit, first_state}
use Rattle.kilim_run_model.specs.Runs.{Replays, AtRest, Whole, played}
use Rattle.kilim_run_journal.specs.declared.entry.Entry.{Entry}
use Rattle.kilim_run_model.specs.Reach.{Liveness, PlaysIsolated}
use Rattle.kilim_run_model.specs.Kept.{Kept}
use Rattle.kilim_run_state.specs.declared.cause.EndCause.{EndCause}
use Rattle.kilim_run_journal.specs.declared.entry.Act.{Act}
use Rattle.kilim_run_model.specs.Lone.{Lone, Ends, next_move}
use Rattle.kilim_run_model.specs.Moving.{Books, Moving, MovedReplay, MovedAtRest, is_others, books_after}
use Rattle.kilim_run_model.specs.one_heap.Booked.{Booked}
use Rattle.kilim_run_model.specs.Turn.{moved}
use Rattle.kilim_run_model.specs.kin.Kin.{Names, Owner}
use Rattle.kilim_run_model.specs.one_heap.Lones.{LonesKin, NextKin, IsWholeThread}
use Rattle.kilim_run_model.specs.one_heap.Parted.{Parted, parts}
use Rattle.kilim_run_model.specs.one_heap.Tied.{Tied, Match}

-- A thread does next the same on a heap of its own as on a heap that it shares.
abbrev pub NextMovesAreKin : Type 0
NextMovesAreKin = (setting : Setting) (of : Names) (owner : ℕ → Owner) (t : ℕ) (a b : Lone) →
    LonesKin of owner t b.heap a b → IsWholeThread setting a.heap a.thread → NextKin setting.program owner t b.heap (next_move setting t a) (next_move setting t b)

-- A move of a thread over the one heap is its move over its own heap, and leaves all threads and mailboxes alike.
abbrev pub MovesMatch : Type 0
MovesMatch = (setting : Setting) (m : Parted) (s : State) → Tied setting m s → (t : ℕ) → ((l : Lone) → slice_get m.lones t ≡ Some l → IsWholeThread setting l.heap l.thread) → Match setting (parts setting m t) (moved setting s t)

-- A thread's own end is never one that others decide: for want of tasks, which is decided at its start, or at a full mailbox.
abbrev pub NoOwnEnds : Type 0
NoOwnEnds = (setting : Setting) (t : ℕ) (l : Lone) (why : EndCause) (after : Lone) → next_move setting t l ≡ Ends why after → is_others why ≡ false

-- Without an action the books are the same, with one they are those after its entry.
abbrev pub KeepsBooks : Setting → Books → ℕ → Parted → Option Act → Type 0
KeepsBooks setting b t after None = Booked setting after b
KeepsBooks setting b t after (Some act) = (later : Books) × (books_after b (record { task = t; act = act }) ≡ Some later) × Booked setting after later

-- A move keeps each thread that of its course, and the mailboxes those of the books.
abbrev pub MovesAreBooked : Type 0
MovesAreBooked = (setting : Setting) (m : Parted) (b : Books) (t : ℕ) → Booked setting m b → KeepsBooks setting b t (parts setting m t).state (parts setting m t).act

-- In no interleaving of a program whose threads are kept is an object reached from two sides.
abbrev pub NoneShares : Type 0
NoneShares = (live : Liveness) (setting : Setting) → is_fit setting ≡ true → Kept live setting → PlaysIsolated live setting

-- The one state is at rest exactly where the other is, with the same waits.
abbrev pub SameRests : Setting → State → Moving → Type 0
SameRests setting last v = (waits : List Entry) → (AtRest setting last waits → MovedAtRest setting v waits) × (MovedAtRest setting v waits → AtRest setting last waits)

-- A list of entries is replayed over one heap exactly where it is over many, and the one state is at rest exactly where
-- the other is.
abbrev pub SameReplays : Setting → List Entry → Type 0
SameReplays setting es =
    ((last : State) → Replays setting (first_state setting) es last → (v : Moving) × MovedReplay setting es v × SameRests setting last v)
    × ((v : Moving) → MovedReplay setting es v → (last : State) × Replays setting (first_state setting) es last × SameRests setting last v)

abbrev pub OneHeapIsMany : Type 0
OneHeapIsMany = (live : Liveness) (setting : Setting) → is_fit setting ≡ true → Kept live setting → (es : List Entry) → SameReplays setting es

-- What the moved machine replays and has at rest is the journal of a whole run over one heap.
abbrev pub MovedIsWhole : Type 0
MovedIsWhole = (live : Liveness) (setting : Setting) → is_fit setting ≡ true → Kept live setting → (es waits : List Entry) (v : Moving) → MovedReplay setting es v → MovedAtRest setting v waits → Whole setting (es ++ waits)

-- The journal of any play is replayed, to a state with that journal.
abbrev pub PlaysReplay : Type 0
PlaysReplay = (live : Liveness) (setting : Setting) → is_fit setting ≡ true → Kept live setting → (schedule : List ℕ) →
    (last : State) × Replays setting (first_state setting) (played setting schedule).journal last × (last.journal ≡ (played setting schedule).journal)
