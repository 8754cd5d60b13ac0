use Rattle.std.proofs.Common.{◌≡◌, drop}
use Rattle.kilim_weave_file_spec.specs.Sizes.{class_longest}
use Rattle.kilim_weave_file_sizes.proofs.sizes.class_longest.Given as goal

abbrev pub invariant-loop-class : goal.invariant-loop-class
invariant-loop-class l = class_longest (drop l.class-index l.classes) l.longest ≡ class_longest l.classes l.least
