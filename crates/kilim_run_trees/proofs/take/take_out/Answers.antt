use Rattle.std.proofs.Common.{arith, ap}
use Rattle.kilim_run_trees.specs.Room.{RoomFor}
use Rattle.kilim_run_trees.proofs.Out.{out_long, taken_out, small_room, tree_list}
use Rattle.kilim_run_trees.proofs.take.take_out.Goals as goal

pub number-requires-clause-fits : goal.number-requires-clause-fits
number-requires-clause-fits c = omega (arith, out_long _ _ _ _ _ c.requires c.collect.ensures.collected, c.room.invariant.stack_fits, ap (λ (r : RoomFor). r.count) c.room.view_is, c.collect.ensures.capacity)

pub number-requires-clause-small : goal.number-requires-clause-small
number-requires-clause-small c = omega (arith, out_long _ _ _ _ _ c.requires c.collect.ensures.collected, small_room _ _ _ c.requires)

pub returns : goal.returns
returns c = taken_out _ _ _ _ _ c.collect.ensures.collected c.number.ensures

pub invariant_of-result : goal.invariant_of-result
invariant_of-result c = tree_list _ _ _ _ _ _ c.requires c.collect.ensures.collected c.number.ensures
