use Rattle.std.proofs.Common.{◌≡◌, filter, drop}
use Rattle.kilim_link_spec.specs.Faults.{is_left_here}
use Rattle.kilim_link_spec.specs.Linked.{first_of}
use Rattle.kilim_link_override_faults.proofs.abstracts.first_left_here.Given as goal

abbrev pub invariant-loop-method : goal.invariant-loop-method
invariant-loop-method l = first_of (filter (is_left_here l.class_is_abstract) (drop l.method-index l.methods)) ≡ first_of (filter (is_left_here l.class_is_abstract) l.methods)
