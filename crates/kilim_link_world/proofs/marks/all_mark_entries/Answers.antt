use Rattle.std.proofs.Common.{refl}
use Rattle.kilim_link_world.specs.Superclasses.{mark_entries}
use Rattle.kilim_link_world.proofs.Loops.{mapped, all_mapped}
use Rattle.kilim_link_world.proofs.marks.all_mark_entries.Goals as goal

pub loop-mark-preserved : goal.loop-mark-preserved
loop-mark-preserved c = mapped mark_entries c.loop-mark.entries c.push.new.self c.args.own.now c.loop-mark.mark-index _ _ c.in-Ok.said c.loop-mark-test.true refl c.loop-mark.invariant c.in-Ok.ensures c.in-Ok-push.ensures.ok

pub returns : goal.returns
returns c = all_mapped mark_entries c.loop-mark.entries c.args.own.now c.loop-mark.mark-index c.loop-mark-test.false c.loop-mark.invariant
