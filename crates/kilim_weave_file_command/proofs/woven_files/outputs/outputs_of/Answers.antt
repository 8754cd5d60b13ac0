use Rattle.std.proofs.Common.{arith}
use Rattle.kilim_weave_file_command.proofs.woven_files.Written.{outputs_more}
use Rattle.kilim_weave_file_command.proofs.woven_files.outputs.outputs_of.Goals as goal

pub loop-at-preserved : goal.loop-at-preserved
loop-at-preserved c =
    outputs_more c.args.program.now c.args.program.now.classes c.class_at-class.result.now c.args.files.now c.loop-at.outputs c.push.new.self c.loop-at.at c.file_at-file.result.now c.in-Ok.output c.file_at-file.ensures.there c.class_at-class.ensures
    c.in-Ok-push.ensures.ok c.in-Ok.ensures c.loop-at.invariant

pub class_at-class-requires : goal.class_at-class-requires
class_at-class-requires c = let all = c.requires.classes in omega (arith, all)
