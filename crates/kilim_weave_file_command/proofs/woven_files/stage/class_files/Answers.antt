use Rattle.std.proofs.Common.{arith}
use Rattle.kilim_stages.proofs.Named.{files_more}
use Rattle.kilim_weave_file_command.proofs.woven_files.stage.class_files.Goals as goal

pub loop-i-preserved : goal.loop-i-preserved
loop-i-preserved c =
    files_more c.args.files.now c.loop-i.classes c.push.new.self c.loop-i.i c.index-files-i.result c.as_slice.result.now c.in-Ok.file c.index-files-i.is (omega (arith, c.loop-i-test.true)) c.as_slice.ensures
    c.in-Ok-push.ensures.ok c.loop-i.invariant c.in-Ok.ensures
