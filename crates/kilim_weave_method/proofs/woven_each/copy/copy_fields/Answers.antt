use Rattle.std.proofs.Common.{◌∙◌, arith}
use Rattle.std.proofs.lemmas.List.{take_all}
use Rattle.kilim_weave_method.proofs.Listing.{copied_more}
use Rattle.kilim_weave_method.proofs.woven_each.copy.copy_fields.Goals as goal

pub loop-at-preserved : goal.loop-at-preserved
loop-at-preserved c =
    copied_more c.args.fields.now c.loop-at.at c.field_at-field.result.now c.in-Ok.copy c.loop-at.all c.push.new.self c.field_at-field.ensures c.loop-at.invariant c.in-Ok.ensures c.in-Ok-push.ensures.ok

pub returns : goal.returns
returns c = c.loop-at.invariant ∙ take_all c.loop-at.at c.args.fields.now (omega arith)
