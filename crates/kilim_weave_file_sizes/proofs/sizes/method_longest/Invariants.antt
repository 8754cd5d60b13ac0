use Rattle.std.proofs.Common.{◌≡◌, drop}
use Rattle.kilim_weave_file_spec.specs.Sizes.{method_longest}
use Rattle.kilim_weave_file_sizes.proofs.sizes.method_longest.Given as goal

abbrev pub invariant-loop-method : goal.invariant-loop-method
invariant-loop-method l = method_longest l.program (drop l.method-index l.methods) l.longest ≡ method_longest l.program l.methods l.least
