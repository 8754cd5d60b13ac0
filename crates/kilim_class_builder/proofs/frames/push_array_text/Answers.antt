use Rattle.std.proofs.Common.{◌++◌, arith}
use Rattle.kilim_program.specs.Names.{array_descriptor}
use Rattle.kilim_class_builder.specs.Frames.{base_text}
use Rattle.kilim_class_builder.proofs.Lists.{array_more}
use Rattle.kilim_class_builder.proofs.frames.push_array_text.Goals as goal

pub loop-preserved : goal.loop-preserved
loop-preserved c =
    array_more c.args.ty.dims c.loop.counter (base_text c.args.pool.now c.args.ty.base) c.loop.out.items c.push.new.self.items
    (c.args.out.now.items ++ array_descriptor c.args.ty.dims (base_text c.args.pool.now c.args.ty.base)) (omega arith) c.in_ok-push.ensures.items c.loop.invariant
