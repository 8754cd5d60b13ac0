use Rattle.std.proofs.Common.{◌≡◌, ◌++◌, drop, Some}
use Rattle.kilim_link_override_faults.specs.Heritage.{is_shared_abstract, sayings}
use Rattle.kilim_link_override_faults.proofs.heritage.say_abstract.Given as goal

abbrev pub invariant-loop-method : goal.invariant-loop-method
invariant-loop-method l = l.said ++ sayings is_shared_abstract (Some 0) (drop l.method-index l.methods) ≡ l.fn.said ++ sayings is_shared_abstract (Some 0) l.methods
