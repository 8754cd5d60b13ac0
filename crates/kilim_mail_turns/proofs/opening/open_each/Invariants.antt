use Rattle.std.proofs.Common.{◌≡◌, ◌+◌, length, map}
use Rattle.std.specs.Prelude.{◌≤◌}
use Rattle.std.specs.Vec.{vec_capacity}
use Rattle.kilim_mail_turns.specs.Opened.{AreSeated}
use Rattle.kilim_mail_turns.proofs.Openings.{Opening}
use Rattle.kilim_mail_turns.proofs.opening.open_each.Given as goal

abbrev pub invariant-loop-alloc : goal.invariant-loop-alloc
invariant-loop-alloc g l =
    Opening g.B.Cells.cells l.seats l.fn.values.items l.values.items l.turns.items (map (λ p. p.items) l.passes.items)
    × AreSeated g.B.Cells.cells l.seats l.values.items
    × (length l.turns.items + length l.values.items ≤ vec_capacity l.turns)
    × (length l.passes.items ≡ length l.turns.items)
    × (length l.passes.items + length l.values.items ≤ vec_capacity l.passes)
    × (length l.turns.items + length l.values.items ≤ vec_capacity l.values)

abbrev pub decreases-loop-alloc : goal.decreases-loop-alloc
decreases-loop-alloc g l = length l.values.items
