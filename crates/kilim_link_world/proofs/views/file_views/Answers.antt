use Rattle.kilim_link_spec.specs.World.{view_of_file}
use Rattle.kilim_link_world.proofs.Loops.{mapped, all_mapped}
use Rattle.kilim_link_world.proofs.views.file_views.Goals as goal

pub loop-file-preserved : goal.loop-file-preserved
loop-file-preserved c = mapped view_of_file c.loop-file.views c.push.new.self c.args.files.now c.loop-file.file-index c.file-item.result _ c.in-Ok.view c.loop-file-test.true c.file-item.is c.loop-file.invariant c.in-Ok.ensures c.in-Ok-push.ensures.ok

pub returns : goal.returns
returns c = all_mapped view_of_file c.loop-file.views c.args.files.now c.loop-file.file-index c.loop-file-test.false c.loop-file.invariant
