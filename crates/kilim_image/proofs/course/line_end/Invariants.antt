use Rattle.std.proofs.Common.{◌≡◌, take, true}
use Rattle.kilim_image.specs.Lines.{is_inside}
use Rattle.kilim_image.proofs.course.line_end.Given as goal

abbrev pub invariant-loop-i : goal.invariant-loop-i
invariant-loop-i l = is_inside (take l.i l.bytes) ≡ true
