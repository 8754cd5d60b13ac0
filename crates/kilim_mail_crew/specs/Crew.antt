-- Workers with a pass of each of several turns.
use Rattle.std.specs.Prelude.{◌≡◌, ℕ, ◌≤◌, ◌<◌, List, [], ◌∷◌, ◌++◌, length, map, slice_index_or}
use Rattle.atomic_table.specs.Seated.{TableId}
use Rattle.kilim_run_turn.specs.declared.pass.Pass.{Pass}
use Rattle.kilim_run_turn.specs.Turns.{seat_of, IsOutside, AreAllAt}
use Rattle.kilim_mail_crew.specs.declared.crew.Worker.{Worker}

-- a turn, whatever its value is: the table behind it, and the number of its seats
pub record Table : Type 0 where
  pub table : TableId
  pub seats : ℕ

abbrev pub own_of : {L : Type 0} → Worker L → L
own_of w = w.own

-- the passes are of these turns, one by one, and of this seat, and none is inside
pub record AreOf (seat : ℕ) (turns : List Table) (passes : List Pass) : Type 0 where
  pub size : length passes ≡ length turns
  pub each : (k : ℕ) (d : Table) (e : Pass) → k < length passes → IsOutside (slice_index_or turns k d).table (slice_index_or turns k d).seats (slice_index_or passes k e)
  pub seats : (k : ℕ) (e : Pass) → k < length passes → seat_of (slice_index_or passes k e) ≡ seat

-- each worker has a pass of each of these turns
abbrev pub AreDealt : {L : Type 0} → List Table → List (Worker L) → Type 0
AreDealt {L} turns ws = (s : ℕ) (d : Worker L) → s < length ws → AreOf s turns (slice_index_or ws s d).passes.items

-- Each worker before the i-th has given its last pass; and what is the workers' own is as it was.
pub record Collecting {L : Type 0} (ws0 ws : List (Worker L)) (ps : List Pass) (i : ℕ) : Type 0 where
  pub size : length ws ≡ length ws0
  pub many : length ps ≡ i
  pub done : (s : ℕ) (d : Worker L) (e : Pass) → s < i → (slice_index_or ws0 s d).passes.items ≡ (slice_index_or ws s d).passes.items ++ slice_index_or ps s e ∷ []
  pub left : (s : ℕ) (d : Worker L) → i ≤ s → s < length ws → slice_index_or ws s d ≡ slice_index_or ws0 s d
  pub own : map own_of ws ≡ map own_of ws0

-- What was taken back of all workers are all passes of the last turn, and the workers have those of the others.
pub record IsBack {L : Type 0} (turns : List Table) (turn : Table) (ws : List (Worker L)) (ps : List Pass) : Type 0 where
  pub passes : AreAllAt turn.table turn.seats ps
  pub others : AreDealt turns ws

abbrev pub AllComeBack : {L : Type 0} → List (Worker L) → List (Worker L) → List Pass → Type 0
AllComeBack ws0 ws ps = (turns : List Table) (turn : Table) → Collecting ws0 ws ps (length ws0) → AreDealt (turns ++ turn ∷ []) ws0 → turn.seats ≡ length ws0 → 0 < length ws0 → IsBack turns turn ws ps
