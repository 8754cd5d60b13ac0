use Rattle.kilim_fiber_body.proofs.Roots.{root_there}
use Rattle.kilim_fiber_body.proofs.births.begun_body.Goals as goal

pub class-requires : goal.class-requires
class-requires c = root_there c.new-heap.result c.args.tree c.put_in.new.heap c.in-Ok.root c.in-Ok.ensures.ok
