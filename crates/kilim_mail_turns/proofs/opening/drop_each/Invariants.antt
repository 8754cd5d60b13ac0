use Rattle.std.proofs.Common.{length, map}
use Rattle.kilim_mail_turns.specs.Opened.{AreAll}
use Rattle.kilim_mail_turns.proofs.opening.drop_each.Given as goal

abbrev pub invariant-loop-turns : goal.invariant-loop-turns
invariant-loop-turns g l = AreAll g.B.Cells.cells l.turns.items (map (λ p. p.items) l.passes.items)

abbrev pub decreases-loop-turns : goal.decreases-loop-turns
decreases-loop-turns g l = length l.turns.items
