use Rattle.std.proofs.Common.{length}
use Rattle.kilim_image.proofs.Lines.{Reading}
use Rattle.kilim_image.proofs.course.deeds_by_line.Given as goal

abbrev pub invariant-loop-rest : goal.invariant-loop-rest
invariant-loop-rest l = Reading l.text l.entries l.rest

abbrev pub decreases-loop-rest : goal.decreases-loop-rest
decreases-loop-rest l = length l.rest
