use Rattle.std.proofs.Common.{◌≡◌, ◌++◌, length}
use Rattle.kilim_link_spec.specs.Annotations.{lists_of}
use Rattle.kilim_link_views.proofs.marks.lists_of.Given as goal

abbrev pub invariant-loop-rest : goal.invariant-loop-rest
invariant-loop-rest l = l.lists ++ lists_of l.rest ≡ lists_of l.parts

abbrev pub decreases-loop-rest : goal.decreases-loop-rest
decreases-loop-rest l = length l.rest
