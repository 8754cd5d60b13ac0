use Rattle.std.proofs.Common.{◌≡◌, ◌+◌, drop}
use Rattle.kilim_isolation_rules.specs.Rules.{items}
use Rattle.kilim_isolation_rules.proofs.shuffles.items.Given as goal

abbrev pub invariant-loop-left : goal.invariant-loop-left
invariant-loop-left l = l.count + items l.left (drop l.count l.types) ≡ items l.words l.types

abbrev pub decreases-loop-left : goal.decreases-loop-left
decreases-loop-left l = l.left
