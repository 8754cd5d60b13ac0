use Rattle.kilim_weave_file_command.specs.Weaving.{output_of}
use Rattle.kilim_weave_file_command.proofs.Loops.{mapped_last}
use Rattle.kilim_weave_file_command.proofs.weaving.outputs_of.Goals as goal

pub loop-file-preserved : goal.loop-file-preserved
loop-file-preserved c =
    mapped_last (output_of c.args.to.now) c.loop-file.outputs c.push.new.self c.loop-file.yielded c.in-Some.file c.in-Ok.output c.loop-file.invariant c.in-Ok.ensures c.in-Ok-push.ensures.ok
