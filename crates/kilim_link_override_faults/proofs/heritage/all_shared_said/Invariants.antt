use Rattle.std.proofs.Common.{◌≡◌, ◌≤◌, ◌-◌, ◌++◌, drop, length}
use Rattle.kilim_link_override_faults.specs.Heritage.{all_numbered, all_places}
use Rattle.kilim_link_override_faults.proofs.heritage.all_shared_said.Given as goal

abbrev pub invariant-loop-i : goal.invariant-loop-i
invariant-loop-i l =
    (l.i ≤ length l.classes)
    × (l.said ++ all_numbered (length l.places) (drop l.i l.classes) ≡ all_numbered 0 l.classes)
    × (l.places ++ all_places l.i (drop l.i l.classes) ≡ all_places 0 l.classes)

abbrev pub decreases-loop-i : goal.decreases-loop-i
decreases-loop-i l = length l.classes - l.i
