use Rattle.std.proofs.Common.{◌≡◌, ◌-◌, ◌≤◌}
use Rattle.kilim_link_world.specs.Agrees.{each_below}
use Rattle.kilim_link_world.specs.Superclasses.{own_key}
use Rattle.kilim_link_world.proofs.lineages.own_keys.Given as goal

abbrev pub invariant-loop-i : goal.invariant-loop-i
invariant-loop-i l = (l.i ≤ l.count) × (l.entries ≡ each_below own_key l.i)

abbrev pub decreases-loop-i : goal.decreases-loop-i
decreases-loop-i l = l.count - l.i
