use Rattle.std.proofs.Common.{◌≡◌, filter, drop}
use Rattle.kilim_link_spec.specs.Linked.{first_of}
use Rattle.kilim_link_override_faults.specs.Parts.{is_left_over}
use Rattle.kilim_link_override_faults.proofs.abstracts.first_left_over.Given as goal

abbrev pub invariant-loop-method : goal.invariant-loop-method
invariant-loop-method l = first_of (filter (is_left_over l.world l.class l.nearer) (drop l.method-index l.methods)) ≡ first_of (filter (is_left_over l.world l.class l.nearer) l.methods)
