use Rattle.std.proofs.Common.{arith, refl}
use Rattle.kilim_demo.proofs.Filed.{filed_all, filed_more}
use Rattle.kilim_demo.proofs.files.push_stages.Goals as goal

pub loop-index-preserved : goal.loop-index-preserved
loop-index-preserved c =
    filed_more c.args.messages c.loop-index.files.items c.push_file.new.files.items _ c.args.stages.now c.loop-index.index _ _ c.in-Ok.file (omega (arith, c.loop-index-test.true, c.loop-index.auto.index-end)) refl
    c.loop-index.invariant c.in-Ok.ensures c.in-Ok-push_file.ensures

pub returns : goal.returns
returns c = filed_all c.args.messages c.loop-index.files.items _ c.args.stages.now c.loop-index.index (omega (arith, c.loop-index-test.false, c.loop-index.auto.index-end)) c.loop-index.invariant
