use Rattle.kilim_link_spec.specs.Mentions.{mentions_of_slot}
use Rattle.kilim_link_mentions.proofs.Joined.{joined, all_pushed}
use Rattle.kilim_link_mentions.proofs.frames.push_slots.Goals as goal

pub loop-slot-preserved : goal.loop-slot-preserved
loop-slot-preserved c = joined (mentions_of_slot c.args.pool.now) c.args.into.now c.loop-slot.into c.push_slot.new.into c.args.slots.now c.loop-slot.slot-index _ c.loop-slot-test.true c.loop-slot.invariant c.in-Ok.ensures

pub returns : goal.returns
returns c = all_pushed (mentions_of_slot c.args.pool.now) c.args.into.now c.loop-slot.into c.args.slots.now c.loop-slot.slot-index c.loop-slot-test.false c.loop-slot.invariant
