use Rattle.std.proofs.Common.{◌≡◌, ◌-◌, ◌≤◌, ◌++◌, length, drop}
use Rattle.kilim_link_spec.specs.Qualified.{params_by}
use Rattle.kilim_link_world.specs.types.Params.{params_from}
use Rattle.kilim_link_world.proofs.types.methods.params_by.Given as goal

abbrev pub invariant-loop-i : goal.invariant-loop-i
invariant-loop-i l = (l.i ≤ length l.texts) × (l.params ++ params_from l.world l.i (drop l.i l.texts) l.attributes ≡ params_by l.world l.texts l.attributes)

abbrev pub decreases-loop-i : goal.decreases-loop-i
decreases-loop-i l = length l.texts - l.i
