use Rattle.std.proofs.Common.{◌∙◌, ap, List, Bool}
use Rattle.kilim_class_code.specs.Code.{first_failing, is_place, mid_target}
use Rattle.kilim_class_code.specs.Marks.{is_marked}
use Rattle.kilim_class_code.proofs.Marking.{same_failing}
use Rattle.kilim_class_code.proofs.marks.mid_target.Goals as goal

pub returns : goal.returns
unfolding mid_target
returns c =
    c.first_failing.ensures
    ∙ (ap (λ (marks : List Bool). first_failing (is_marked marks) c.args.code.now) c.as_slice.ensures.value
    ∙ same_failing (is_marked c.in_ok-marks.marks.items) (is_place c.args.code.now) c.in_ok-marks.ensures c.args.code.now)
