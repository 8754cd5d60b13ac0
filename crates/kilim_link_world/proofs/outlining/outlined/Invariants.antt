use Rattle.std.proofs.Common.{◌≡◌, ◌-◌, ◌≤◌, length, take}
use Rattle.kilim_link_spec.specs.World.{outlined}
use Rattle.kilim_link_world.specs.Outlining.{mark_at}
use Rattle.kilim_link_world.proofs.outlining.outlined.Given as goal

abbrev pub invariant-loop-i : goal.invariant-loop-i
invariant-loop-i l = (l.i ≤ length l.classes) × (l.list ≡ outlined l.classes (λ c v. mark_at l.marks c) 0 (take l.i l.classes))

abbrev pub decreases-loop-i : goal.decreases-loop-i
decreases-loop-i l = length l.classes - l.i
