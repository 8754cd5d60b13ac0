use Rattle.kilim_weave_method.proofs.woven_each.methods.all_woven.Goals as goal

pub woven_each_one-requires : goal.woven_each_one-requires
woven_each_one-requires c = c.requires

pub with_fiber-requires : goal.with_fiber-requires
with_fiber-requires c = c.in_ok-each.ensures

pub returns : goal.returns
returns c = c.with_fiber.ensures
