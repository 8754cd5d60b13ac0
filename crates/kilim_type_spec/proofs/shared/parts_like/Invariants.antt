use Rattle.std.proofs.Common.{◌≡◌, ◌++◌, length}
use Rattle.kilim_type_spec.specs.Parts.{joined}
use Rattle.kilim_type_spec.proofs.shared.parts_like.Given as goal

abbrev pub invariant-loop-left : goal.invariant-loop-left
invariant-loop-left l = joined l.parts.items ++ l.left ≡ l.types

abbrev pub decreases-loop-left : goal.decreases-loop-left
decreases-loop-left l = length l.left
