-- What each kind of step on the word tells: of the seat before, the number found and the seat after.
use Rattle.std.specs.Prelude.{◌≡◌, ◌≢◌, ℕ, ◌+◌, ◌<◌, List, [], ◌∷◌, length, Option, Some, None}
use Rattle.atomic_table.specs.Table.{Me, Step, rest}
use Rattle.atomic_table.specs.Seated.{TableId}
use Rattle.kilim_run_turn.specs.declared.view.View.{View}
use Rattle.kilim_run_turn.specs.Views.{cell_at, as_opener, begun, worker, inside, outside, posted}

-- a seat of the turn's table: its view, and the slot while it is out with it
abbrev pub Sat : Type 0 → Type 0
Sat S = Me (Option S) View

-- the list has an entry for each seat, and those at the seat's numbers are the cells that it shows
abbrev pub IsTold : View → Type 0
IsTold v = (length v.list ≡ v.seats) × ((k : ℕ) → k < length v.shown → (v.number + k < v.seats) × (cell_at v.list (v.number + k) ≡ cell_at v.shown k))

module _ {S : Type 0} where
  -- the first seat learned which table it is of
  abbrev pub Learned : TableId → Step (Option S) → Sat S → ℕ → Sat S → Type 0
  Learned z s m r n = n ≡ (as_opener z m.0, m.1)

  -- the opening is over: the first seat is inside, with the empty slot
  abbrev pub Began : Step (Option S) → Sat S → ℕ → Sat S → Type 0
  Began s m r n = n ≡ (begun m.0, (0, None) ∷ m.1)

  -- the seat is inside, with a value that fits
  abbrev pub IsInside : (TableId → S → Type 0) → Sat S → Sat S → Type 0
  IsInside lies m n = (y : S) × lies m.0.of.table_id y × (n ≡ (inside m.0, (0, Some y) ∷ m.1))

  -- the seat with the number n, of q, is inside and has taken a value that fits
  abbrev pub IsLoaded : (TableId → S → Type 0) → TableId → ℕ → ℕ → Sat S → Type 0
  IsLoaded lies z q n m = (y : S) × lies z y × (m ≡ (inside (worker z q n m.0.shown), (0, Some y) ∷ []))

  -- the turn was free, and the seat took it; or nothing changed
  abbrev pub Took : (TableId → S → Type 0) → Step (Option S) → Sat S → ℕ → Sat S → Type 0
  Took lies s m r n = (r ≡ 0 → IsInside lies m n) × (r ≢ 0 → n ≡ m)

  -- the turn was free, since nobody else has a seat, and the seat took it
  abbrev pub TookLast : (TableId → S → Type 0) → Step (Option S) → Sat S → ℕ → Sat S → Type 0
  TookLast lies s m r n = IsInside lies m n

  abbrev pub Told : Step (Option S) → Sat S → ℕ → Sat S → Type 0
  Told s m r n = (n ≡ m) × IsTold m.0

  -- the cell stands in the list and in the seat's view
  abbrev pub Posted : List ℕ → Step (Option S) → Sat S → ℕ → Sat S → Type 0
  Posted cell s m r n = n ≡ (posted cell m.0, m.1)

  -- the slot is given back, and the seat is outside
  abbrev pub Gave : Step (Option S) → Sat S → ℕ → Sat S → Type 0
  Gave s m r n = n ≡ (outside m.0, rest m.1)
