use Rattle.std.proofs.Common.{◌≡◌, filter, drop}
use Rattle.kilim_link_spec.specs.Faults.{overrides_badly}
use Rattle.kilim_link_spec.specs.Linked.{first_of}
use Rattle.kilim_link_override_faults.proofs.overrides.first_bad.Given as goal

abbrev pub invariant-loop-method : goal.invariant-loop-method
invariant-loop-method l = first_of (filter (overrides_badly l.world l.class) (drop l.method-index l.methods)) ≡ first_of (filter (overrides_badly l.world l.class) l.methods)
