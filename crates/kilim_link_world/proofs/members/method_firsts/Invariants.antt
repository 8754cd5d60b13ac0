use Rattle.std.proofs.Common.{◌≡◌, ◌-◌, ◌≤◌, length, take}
use Rattle.std.specs.Prelude.{sum_by}
use Rattle.kilim_link_world.specs.Agrees.{method_count, each_below}
use Rattle.kilim_link_world.proofs.members.method_firsts.Given as goal

abbrev pub invariant-loop-i : goal.invariant-loop-i
invariant-loop-i l =
    (l.i ≤ length l.classes) × (l.total ≡ sum_by method_count (take l.i l.classes))
    × (l.firsts ≡ each_below (λ c. sum_by method_count (take c l.classes)) l.i)

abbrev pub decreases-loop-i : goal.decreases-loop-i
decreases-loop-i l = length l.classes - l.i
