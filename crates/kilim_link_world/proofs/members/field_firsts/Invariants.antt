use Rattle.std.proofs.Common.{◌≡◌, ◌-◌, ◌≤◌, length, take}
use Rattle.std.specs.Prelude.{sum_by}
use Rattle.kilim_link_world.specs.Agrees.{field_count, each_below, fields_before}
use Rattle.kilim_link_world.proofs.members.field_firsts.Given as goal

abbrev pub invariant-loop-i : goal.invariant-loop-i
invariant-loop-i l =
    (l.i ≤ length l.classes) × (l.total ≡ fields_before l.classes l.i)
    × (l.firsts ≡ each_below (λ c. fields_before l.classes c) l.i)

abbrev pub decreases-loop-i : goal.decreases-loop-i
decreases-loop-i l = length l.classes - l.i
