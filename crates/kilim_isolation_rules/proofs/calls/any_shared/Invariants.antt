use Rattle.std.proofs.Common.{◌≡◌, length}
use Rattle.kilim_isolation_rules.specs.Calls.{any_two, shares}
use Rattle.kilim_isolation_rules.proofs.calls.any_shared.Given as goal

abbrev pub invariant-loop-first : goal.invariant-loop-first
invariant-loop-first l = any_two (shares l.program l.graph) l.left ≡ any_two (shares l.program l.graph) l.arguments

abbrev pub decreases-loop-first : goal.decreases-loop-first
decreases-loop-first l = length l.left
