use Rattle.std.proofs.Common.{◌∙◌, arith}
use Rattle.std.proofs.lemmas.List.{take_all}
use Rattle.kilim_weave_method.proofs.Listing.{copied_more}
use Rattle.kilim_weave_method.proofs.woven_each.copy.copy_classes.Goals as goal

pub loop-at-preserved : goal.loop-at-preserved
loop-at-preserved c =
    copied_more c.args.classes.now c.loop-at.at c.class_at-class.result.now c.in-Ok.copy c.loop-at.all c.push.new.self c.class_at-class.ensures c.loop-at.invariant c.in-Ok.ensures c.in-Ok-push.ensures.ok

pub returns : goal.returns
returns c = c.loop-at.invariant ∙ take_all c.loop-at.at c.args.classes.now (omega arith)
