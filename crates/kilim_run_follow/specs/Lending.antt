-- Lending the fiber of a task to the one seat.
use Rattle.std.specs.Prelude.{◌≡◌, ℕ, ◌<◌, List, [], ◌∷◌, Some, None, IsPermutation, length, replicate, slice_index_or}
use Rattle.kilim_run_board.specs.Board.{Board, SameRun}

-- the fiber at that place is that of the task
abbrev pub IsPlaceOf : {F : Type 0} → (F → ℕ) → List F → ℕ → ℕ → Type 0
IsPlaceOf {F} task fs t at = (at < length fs) × ((d : F) → task (slice_index_or fs at d) ≡ t)

-- the fiber of that task leaves them
pub record TakesOut {F : Type 0} (task : F → ℕ) (fs gs : List F) (t : ℕ) (f : F) : Type 0 where
  pub parts : IsPermutation fs (f ∷ gs)
  pub is : task f ≡ t

-- the fiber of a task, wherever it stands among those that are ready, is lent to the one seat
pub record LendsTask {F : Type 0} (task : F → ℕ) (b b' : Board F) (t : ℕ) (f : F) : Type 0 where
  pub run : SameRun b b'
  pub ready : IsPermutation b.ready (f ∷ b'.ready)
  pub is : task f ≡ t
  pub parked : b'.parked ≡ b.parked
  pub cells : b'.cells ≡ Some t ∷ []
  pub stopped : b'.stopped ≡ b.stopped

-- the fibers that are ready stand in another order
pub record Reorders {F : Type 0} (b b' : Board F) : Type 0 where
  pub run : SameRun b b'
  pub ready : IsPermutation b.ready b'.ready
  pub parked : b'.parked ≡ b.parked
  pub cells : b'.cells ≡ b.cells
  pub stopped : b'.stopped ≡ b.stopped

-- so many seats, which are empty
pub record Widens {F : Type 0} (b b' : Board F) (seats : ℕ) : Type 0 where
  pub run : SameRun b b'
  pub ready : b'.ready ≡ b.ready
  pub parked : b'.parked ≡ b.parked
  pub cells : b'.cells ≡ replicate seats None
  pub stopped : b'.stopped ≡ b.stopped
