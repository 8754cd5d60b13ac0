use Rattle.std.proofs.Common.{◌≡◌, filter, drop}
use Rattle.kilim_link_spec.specs.Faults.{is_no_member}
use Rattle.kilim_link_spec.specs.Linked.{first_of}
use Rattle.kilim_link_faults.proofs.members.first_missing.Given as goal

abbrev pub invariant-loop-member : goal.invariant-loop-member
invariant-loop-member l = first_of (filter (is_no_member l.world) (drop l.member-index l.members)) ≡ first_of (filter (is_no_member l.world) l.members)
