use Rattle.std.proofs.Common.{◌≡◌, ◌-◌, length, take, drop}
use Rattle.kilim_link_spec.specs.Faults.{left_above}
use Rattle.kilim_link_spec.specs.Linked.{first_of}
use Rattle.kilim_link_spec.specs.World.{declared_methods}
use Rattle.kilim_link_override_faults.specs.Parts.{nearer_than}
use Rattle.kilim_link_override_faults.proofs.abstracts.first_left_above.Given as goal

abbrev pub invariant-loop-i : goal.invariant-loop-i
invariant-loop-i l = first_of (left_above l.world (nearer_than l.world l.class (take l.i l.ancestors)) (drop l.i l.ancestors)) ≡ first_of (left_above l.world (declared_methods l.world l.class) l.ancestors)

abbrev pub decreases-loop-i : goal.decreases-loop-i
decreases-loop-i l = length l.ancestors - l.i
