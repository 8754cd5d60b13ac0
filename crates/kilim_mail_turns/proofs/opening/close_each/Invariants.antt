use Rattle.std.proofs.Common.{◌≡◌, ◌+◌, ◌++◌, length, map}
use Rattle.std.specs.Prelude.{◌≤◌}
use Rattle.std.specs.Vec.{vec_capacity}
use Rattle.kilim_run_turn.specs.Turns.{shows}
use Rattle.kilim_mail_turns.specs.Opened.{AreAll}
use Rattle.kilim_mail_turns.proofs.opening.close_each.Given as goal

abbrev pub invariant-loop-turns : goal.invariant-loop-turns
invariant-loop-turns g l =
    AreAll g.B.Cells.cells l.turns.items (map (λ p. p.items) l.passes.items)
    × (map g.B.Cells.cells l.values.items ++ map (λ p. map shows p.items) l.passes.items ≡ map (λ p. map shows p.items) l.fn.passes.items)
    × (length l.turns.items + length l.values.items ≤ vec_capacity l.values)

abbrev pub decreases-loop-turns : goal.decreases-loop-turns
decreases-loop-turns g l = length l.turns.items
