use Rattle.std.proofs.Common.{◌∙◌}
use Rattle.std.proofs.lemmas.List.{take_all}
use Rattle.kilim_link_views.proofs.built_ins.Loops.{copied}
use Rattle.kilim_link_views.proofs.built_ins.parts.text.Goals as goal

pub loop-byte-preserved : goal.loop-byte-preserved
loop-byte-preserved c = copied c.loop-byte.units.items c.push.new.self.items c.args.ascii.now c.loop-byte.byte-index _ c.from.result c.loop-byte-test.true c.loop-byte.invariant c.from.ensures c.in-Ok.ensures.items

pub returns : goal.returns
returns c = c.in-Ok-from_vec.ensures ∙ (c.loop-byte.invariant ∙ take_all c.loop-byte.byte-index c.args.ascii.now c.loop-byte-test.false)
