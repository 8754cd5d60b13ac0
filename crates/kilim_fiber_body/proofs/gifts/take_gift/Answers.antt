use Rattle.std.proofs.Common.{sym, ◌∙◌}
use Rattle.kilim_fiber_body.proofs.gifts.take_gift.Goals as goal

pub shape-requires : goal.shape-requires
shape-requires c = c.requires.suits _ c.in-Ok.ensures.ok _ _ c.take_out-tree.ensures

pub returns-in-Ok-shape : goal.returns-in-Ok-shape
returns-in-Ok-shape c = record { out = c.take_out-tree.ensures; has = sym (c.take_out-tree.ensures.shape c.args.program.now) ∙ c.in-Ok-shape.ensures }
