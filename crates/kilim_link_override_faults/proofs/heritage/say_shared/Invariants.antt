use Rattle.std.proofs.Common.{◌≡◌, ◌++◌, drop, None}
use Rattle.kilim_link_override_faults.specs.Parts.{is_shared}
use Rattle.kilim_link_override_faults.specs.Heritage.{sayings}
use Rattle.kilim_link_override_faults.proofs.heritage.say_shared.Given as goal

abbrev pub invariant-loop-method : goal.invariant-loop-method
invariant-loop-method l = l.said ++ sayings is_shared None (drop l.method-index l.methods) ≡ l.fn.said ++ sayings is_shared None l.methods
