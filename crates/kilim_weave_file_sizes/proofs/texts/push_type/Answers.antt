use Rattle.std.proofs.Common.{◌++◌, arith}
use Rattle.kilim_program.specs.Names.{array_descriptor, base_descriptor}
use Rattle.kilim_reports.proofs.Arrays.{array_more}
use Rattle.kilim_weave_file_sizes.proofs.texts.push_type.Goals as goal

pub loop-preserved : goal.loop-preserved
loop-preserved c =
    array_more c.args.ty.dims c.loop.counter (base_descriptor c.args.program.now c.args.ty.base) c.loop.out.items c.push.new.self.items
    (c.args.out.now.items ++ array_descriptor c.args.ty.dims (base_descriptor c.args.program.now c.args.ty.base)) (omega arith) c.in-Ok.ensures.items c.loop.invariant
