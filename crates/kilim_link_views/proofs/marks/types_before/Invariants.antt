use Rattle.std.proofs.Common.{◌≡◌, ◌++◌, length}
use Rattle.kilim_link_spec.specs.Annotations.{types_before}
use Rattle.kilim_link_views.proofs.marks.types_before.Given as goal

abbrev pub invariant-loop-rest : goal.invariant-loop-rest
invariant-loop-rest l = l.types ++ types_before l.rest ≡ types_before l.parts

abbrev pub decreases-loop-rest : goal.decreases-loop-rest
decreases-loop-rest l = length l.rest
