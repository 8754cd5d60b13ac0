use Rattle.std.proofs.Common.{◌≡◌, ◌≤◌, [], vec_len, vec_capacity}
use Rattle.kilim_run_turn.specs.Views.{opener}
use Rattle.kilim_run_turn.specs.Turns.{AreMade}
use Rattle.kilim_run_turn.proofs.opening.hand_out.Given as goal

abbrev pub invariant-loop-number : goal.invariant-loop-number
invariant-loop-number g l =
    (l.seat.table_id ≡ l.initial.seat.table_id)
    × (l.seat.me ≡ (opener l.shelf.table_id l.seats l.number (g.B.Cells.cells l.shelf.key.value), []))
    × (vec_len l.passes ≡ l.number)
    × (l.seats ≤ vec_capacity l.passes)
    × AreMade 1 l.shelf.table_id l.seats (g.B.Cells.cells l.shelf.key.value) l.passes.items
