use Rattle.std.proofs.Common.{◌≡◌, ◌++◌, drop, Some}
use Rattle.kilim_link_override_faults.specs.Apart.{is_apart}
use Rattle.kilim_link_override_faults.specs.Heritage.{sayings}
use Rattle.kilim_link_override_faults.proofs.apart.apart_said.Given as goal

abbrev pub invariant-loop-method : goal.invariant-loop-method
invariant-loop-method l = l.said ++ sayings (is_apart l.world l.class) (Some 0) (drop l.method-index l.methods) ≡ sayings (is_apart l.world l.class) (Some 0) l.methods
