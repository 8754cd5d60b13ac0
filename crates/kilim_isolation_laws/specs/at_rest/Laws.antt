-- Rest is one thing.
use Rattle.std.specs.Prelude.{◌≡◌, ℕ, Bool, true, false, List, Option, Some}
use Rattle.kilim_run_journal.specs.declared.entry.Entry.{Entry}
use Rattle.kilim_run_model.specs.State.{Setting, State}
use Rattle.kilim_run_model.specs.Lone.{Lone, Next, Goes, next_move, get_at}
use Rattle.kilim_run_model.specs.Runs.{AtRest}
use Rattle.kilim_run_model.specs.declared.waits.Waits.{Waits}
use Rattle.kilim_run_model.specs.declared.waits.Waits.TheVariants as wait

-- it goes on by itself
abbrev pub is_going : Next → Bool
is_going (Goes after) = true
is_going next = false

-- what a thread does next that waits for this on another heap: it stands at the same `get`; or it doesn't go on by itself
abbrev pub StaysAt : Waits → Next → Type 0
StaysAt (wait.Take box) next = get_at next ≡ Some (wait.Take box)
StaysAt (wait.Put box) next = is_going next ≡ false

-- A thread that stands at a `get` stands there on every heap. One that stands at a put that waits goes on by itself on none: what it puts there
-- may be another tree, or too large.
abbrev pub GetStays : Type 0
GetStays = (setting : Setting) (t : ℕ) (a b : Lone) (w : Waits) → a.thread ≡ b.thread → get_at (next_move setting t a) ≡ Some w → StaysAt w (next_move setting t b)

-- Whatever number of moves brings all threads to rest, those who wait are the same.
abbrev pub OneRest : Type 0
OneRest = (setting : Setting) (s : State) (a b : List Entry) → AtRest setting s a → AtRest setting s b → a ≡ b
