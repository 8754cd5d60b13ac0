use Rattle.std.proofs.Common.{◌≡◌, ◌-◌, drop, length}
use Rattle.kilim_isolation_rules.specs.Marks.{any_mixes}
use Rattle.kilim_isolation_rules.proofs.marks.any_mixes.Given as goal

abbrev pub invariant-loop-at : goal.invariant-loop-at
invariant-loop-at l = any_mixes l.program (drop l.at l.types) (drop l.at l.into) ≡ any_mixes l.program l.types l.into

abbrev pub decreases-loop-at : goal.decreases-loop-at
decreases-loop-at l = length l.types - l.at
