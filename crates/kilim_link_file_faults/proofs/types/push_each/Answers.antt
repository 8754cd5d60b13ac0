use Rattle.std.proofs.Common.{refl}
use Rattle.kilim_link_file_faults.specs.Shapes.{shape_of}
use Rattle.kilim_link_file_faults.proofs.Loops.{more, all_more}
use Rattle.kilim_link_file_faults.proofs.types.push_each.Goals as goal

pub loop-found-preserved : goal.loop-found-preserved
loop-found-preserved c = more shape_of c.args.into.now.items c.loop-found.into.items c.push_shape.new.into.items c.args.types.now c.loop-found.found-index c.found-item.result _ (shape_of c.found-item.result) c.loop-found-test.true c.found-item.is c.loop-found.invariant refl c.in-Ok.ensures

pub returns : goal.returns
returns c = all_more shape_of c.args.into.now.items c.loop-found.into.items c.args.types.now c.loop-found.found-index c.loop-found-test.false c.loop-found.invariant
