-- A worker's passes of several turns: one of them shows another cell.
use Rattle.std.specs.Prelude.{◌≡◌, ℕ, ◌+◌, ◌<◌, List, length, map, slice_index_or, slice_set}
use Rattle.kilim_run_turn.specs.declared.pass.Pass.{Pass}
use Rattle.kilim_run_turn.specs.Turns.{seat_of, shows, IsOutside}
use Rattle.kilim_mail_stamps.specs.Merging.{weigh}
use Rattle.kilim_mail_ledger.specs.declared.items.Item.{Item}
use Rattle.kilim_mail_notes.specs.Notes.{Accounts}
use Rattle.kilim_mail_notes.specs.Sums.{Even}
use Rattle.kilim_mail_crew.specs.Crew.{Table, AreOf}

-- With another pass of the same turn and seat in its place, they are still the passes of these turns.
abbrev pub PassesStay : Type 0
PassesStay = (seat : ℕ) (turns : List Table) (passes : List Pass) (k : ℕ) (p d : Pass) (turn : Table) → k < length passes → turn ≡ slice_index_or turns k turn → AreOf seat turns passes → IsOutside turn.table turn.seats p → seat_of p ≡ seat_of (slice_index_or passes k d) → AreOf seat turns (slice_set passes k p)

-- Under one turn a worker does what its cell there accounts for: it is even with what it has in hand then.
abbrev pub EvenGoesOn : Type 0
EvenGoesOn = (passes : List Pass) (k : ℕ) (p d : Pass) (before after own : List Item) → k < length passes → Even (map shows passes) before own → Accounts (shows (slice_index_or passes k d)) (shows p) before after → Even (map shows (slice_set passes k p)) after own

-- Without a turn it makes an entry of its own: what it has in hand weighs as much more as its own entries.
abbrev pub EvenAlone : Type 0
EvenAlone = (passes : List Pass) (hand hand' own own' : List Item) → Even (map shows passes) hand own → ((h : Item → ℕ) → weigh h hand' + weigh h own ≡ weigh h hand + weigh h own') → Even (map shows passes) hand' own'
