-- What callers say of a turn, its passes and a lent value.
use Rattle.std.specs.Prelude.{◌≡◌, ◌≢◌, ℕ, ◌<◌, ◌≤◌, List, [], ◌∷◌, length, slice_index_or, All, None}
use Rattle.atomic_table.specs.Seated.{TableId}
use Rattle.kilim_run_turn.specs.declared.view.View.{View}
use Rattle.kilim_run_turn.specs.declared.pass.Pass.{Pass}
use Rattle.kilim_run_turn.specs.declared.held.Held.{Held}
use Rattle.kilim_run_turn.specs.declared.lending.Turn.{Turn}
use Rattle.kilim_run_turn.specs.Views.{cell_at, worker, holder}

abbrev pub first_shown : List View → List ℕ
first_shown [] = []
first_shown (v ∷ vs) = cell_at v.shown 0

-- the cell that a pass shows
abbrev pub shows : Pass → List ℕ
shows p = first_shown p.badge.views

-- the number of a pass's seat
abbrev pub seat_of : Pass → ℕ
seat_of p = p.number

-- a pass of the table z with q seats, which isn't inside
pub record IsOutside (z : TableId) (q : ℕ) (p : Pass) : Type 0 where
  pub same : p.badge.table_id ≡ z
  pub few : q ≤ 16
  pub below : p.number < q
  pub knows : p.badge.views ≡ worker z q p.number (shows p ∷ []) ∷ []

-- all passes of the table z with q seats, in the order of their seats, and none is inside
abbrev pub AreAllAt : TableId → ℕ → List Pass → Type 0
AreAllAt z q passes =
    (0 < length passes) × (length passes ≡ q) × All (λ p. IsOutside z q p) passes
    × ((i : ℕ) (d : Pass) → i < length passes → (slice_index_or passes i d).number ≡ i)

-- the pass with the number k, as the table z with these cells is opened
pub record IsMade (z : TableId) (q : ℕ) (cells : List (List ℕ)) (k : ℕ) (p : Pass) : Type 0 where
  pub same : p.badge.table_id ≡ z
  pub number : p.number ≡ k
  pub knows : p.badge.views ≡ worker z q k (cell_at cells k ∷ []) ∷ []

-- the passes from the number `first` on are made
abbrev pub AreMade : ℕ → TableId → ℕ → List (List ℕ) → List Pass → Type 0
AreMade first z q cells passes = (k : ℕ) (d : Pass) → first ≤ k → k < length passes → IsMade z q cells k (slice_index_or passes k d)

-- how the cells of a value may change while it is lent
pub record KeepsOthers (n : ℕ) (old new : List (List ℕ)) : Type 0 where
  pub seats : length new ≡ length old
  pub others : (k : ℕ) → k ≢ n → cell_at new k ≡ cell_at old k

-- the cells of a value as it was lent
abbrev pub lent_cells : {B : Type 0} → Held B → List (List ℕ)
lent_cells held = held.seat.me.0.list

-- the value is lent to the pass with this number, of q at the table z
pub record IsLent {B : Type 0} (z : TableId) (q n : ℕ) (held : Held B) : Type 0 where
  pub same : held.seat.table_id ≡ z
  pub few : q ≤ 16
  pub below : n < q
  pub size : length (lent_cells held) ≡ q
  pub knows : held.seat.me ≡ (holder z q n (cell_at held.seat.me.0.shown 0 ∷ []) (lent_cells held), (0, None) ∷ [])

module _ {B : Type 0} (cells : B → List (List ℕ)) where
  -- the number of the turn's seats
  abbrev pub seats_of : Turn B → ℕ
  seats_of turn = length (cells turn.table.shared.key.value)

  -- the pass is of this turn, and not inside
  abbrev pub IsPassOf : Turn B → Pass → Type 0
  IsPassOf turn p = IsOutside turn.table.shared.table_id (seats_of turn) p

  -- the pass is inside, and the turn's value is lent to it
  abbrev pub IsInsideOf : Turn B → Pass → Held B → Type 0
  IsInsideOf turn p held = IsLent turn.table.shared.table_id (seats_of turn) p.number held

  -- these are all passes of the turn, in the order of their seats, and none is inside
  abbrev pub AreAllOf : Turn B → List Pass → Type 0
  AreAllOf turn passes = AreAllAt turn.table.shared.table_id (seats_of turn) passes
