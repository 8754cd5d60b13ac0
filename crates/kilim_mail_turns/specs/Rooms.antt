-- Workers that have room for passes, so that dealing them out takes no memory.
use Rattle.std.specs.Prelude.{ℕ, ◌<◌, List, [], ◌∷◌, ◌++◌, length, slice_index_or}
use Rattle.std.specs.Vec.{vec_capacity}
use Rattle.kilim_run_turn.specs.declared.pass.Pass.{Pass}
use Rattle.kilim_run_turn.specs.Turns.{AreAllAt}
use Rattle.kilim_mail_crew.specs.declared.crew.Worker.{Worker}
use Rattle.kilim_mail_crew.specs.Crew.{Table, AreDealt}

-- for how many passes there is room
abbrev pub room_of : {L : Type 0} → Worker L → ℕ
room_of w = vec_capacity w.passes

-- each worker has passes, and has room for one more
abbrev pub HavePasses : {L : Type 0} → List (Worker L) → Type 0
HavePasses {L} ws = (s : ℕ) (d : Worker L) → s < length ws → 0 < length (slice_index_or ws s d).passes.items

abbrev pub HaveRoom : {L : Type 0} → List (Worker L) → Type 0
HaveRoom {L} ws =
    (s : ℕ) (d : Worker L) → s < length ws → length (slice_index_or ws s d).passes.items < room_of (slice_index_or ws s d)

-- where these were all passes of a turn, each worker has one of this turn too
abbrev pub OneMoreDealt : {L : Type 0} → List (Worker L) → List Pass → List (Worker L) → Type 0
OneMoreDealt ws0 ps ws =
    (turns : List Table) (turn : Table) → AreDealt turns ws0 → AreAllAt turn.table turn.seats ps → AreDealt (turns ++ turn ∷ []) ws
