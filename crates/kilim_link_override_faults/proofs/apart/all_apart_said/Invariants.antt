use Rattle.std.proofs.Common.{◌≡◌, ◌≤◌, ◌-◌, ◌++◌, drop, length}
use Rattle.kilim_link_override_faults.specs.Apart.{apart_from}
use Rattle.kilim_link_override_faults.proofs.apart.all_apart_said.Given as goal

abbrev pub invariant-loop-i : goal.invariant-loop-i
invariant-loop-i l = (l.i ≤ length l.classes) × (l.said ++ apart_from l.world l.i (drop l.i l.classes) ≡ apart_from l.world 0 l.classes)

abbrev pub decreases-loop-i : goal.decreases-loop-i
decreases-loop-i l = length l.classes - l.i
