use Rattle.std.proofs.Common.{◌≡◌, drop}
use Rattle.kilim_class_code.specs.Code.{first_failing}
use Rattle.kilim_class_code.specs.Marks.{is_marked}
use Rattle.kilim_class_code.proofs.marks.first_failing.Given as goal

abbrev pub invariant-loop-at : goal.invariant-loop-at
invariant-loop-at l = first_failing (is_marked l.marks) (drop l.at-index l.code) ≡ first_failing (is_marked l.marks) l.code
