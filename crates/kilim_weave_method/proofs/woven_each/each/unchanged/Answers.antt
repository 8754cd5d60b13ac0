use Rattle.std.proofs.Common.{false}
use Rattle.kilim_weave_method.proofs.woven_each.OfKind.{kept_as}
use Rattle.kilim_weave_method.proofs.woven_each.each.unchanged.Goals as goal

pub returns : goal.returns
returns c = kept_as c.args._program.now c.args.method.now c.in-Ok-copy_method.same c.in-Ok.counted false c.requires (c.in-Ok-copy_method.ensures, c.in-Ok.ensures)
