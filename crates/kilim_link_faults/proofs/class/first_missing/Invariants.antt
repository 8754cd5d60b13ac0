use Rattle.std.proofs.Common.{◌≡◌, filter, drop}
use Rattle.kilim_link_spec.specs.Faults.{is_missing}
use Rattle.kilim_link_spec.specs.Linked.{first_of}
use Rattle.kilim_link_faults.proofs.class.first_missing.Given as goal

abbrev pub invariant-loop-name : goal.invariant-loop-name
invariant-loop-name l = first_of (filter (is_missing l.world) (drop l.name-index l.names)) ≡ first_of (filter (is_missing l.world) l.names)
