use Rattle.std.proofs.Common.{◌∙◌, ap, map, arith}
use Rattle.std.proofs.lemmas.List.{take_all}
use Rattle.kilim_weave_spec.specs.Form.{all_counted}
use Rattle.kilim_weave_method.proofs.woven_each.All.{marks_more}
use Rattle.kilim_weave_method.proofs.woven_each.methods.all_marks.Goals as goal

pub loop-at-preserved : goal.loop-at-preserved
loop-at-preserved c =
    marks_more c.args.methods.now c.loop-at.at c.method_at-method.result.now c.in-Ok.marks c.loop-at.all c.push.new.self c.method_at-method.ensures c.loop-at.invariant c.in-Ok.ensures c.in-Ok-push.ensures.ok

pub returns : goal.returns
returns c = c.loop-at.invariant ∙ ap (map all_counted) (take_all c.loop-at.at c.args.methods.now (omega arith))
