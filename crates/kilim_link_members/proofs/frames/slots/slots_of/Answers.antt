use Rattle.std.specs.List.{flat_map}
use Rattle.std.proofs.Common.{refl}
use Rattle.kilim_link_spec.specs.Frames.{local_slots}
use Rattle.kilim_link_members.proofs.frames.Loops.{joined, all_in}
use Rattle.kilim_link_members.proofs.frames.slots.slots_of.Goals as goal

pub loop-local-preserved : goal.loop-local-preserved
loop-local-preserved c = joined local_slots c.loop-local.slots c.push_local.new.into c.args.locals.now c.loop-local.local-index _ _ c.loop-local-test.true refl c.loop-local.invariant c.in-Ok.ensures

pub returns : goal.returns
returns c = all_in (flat_map local_slots) c.loop-local.slots c.args.locals.now c.args.locals.now c.loop-local.local-index refl c.loop-local-test.false c.loop-local.invariant
