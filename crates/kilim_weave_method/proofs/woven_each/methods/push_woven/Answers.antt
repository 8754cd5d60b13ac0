use Rattle.std.proofs.Common.{◌∙◌, ℕ, ap, slice_get}
use Rattle.kilim_weave_method.proofs.woven_each.All.{all_more}
use Rattle.kilim_weave_method.proofs.woven_each.methods.push_woven.Goals as goal

pub woven_at-requires : goal.woven_at-requires
woven_at-requires c = record { typed = c.requires.typed; there = ap (λ (n : ℕ). slice_get c.args.program.now.methods n) c.in-Ok.ensures ∙ c.method_of-method.ensures }

pub returns : goal.returns
returns c each =
    all_more c.args.program.now c.args.program.now.methods c.args.at c.method_of-method.result.now c.in-Ok-woven_at.pair.0 c.in-Ok-woven_at.pair.1 c.args.all.now.methods c.push.new.self c.args.all.now.counted c.push-2.new.self c.method_of-method.ensures each c.in-Ok-woven_at.ensures c.in-Ok-push.ensures.ok c.in-Ok-push-2.ensures.ok
