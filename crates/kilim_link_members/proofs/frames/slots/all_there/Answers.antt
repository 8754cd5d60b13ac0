use Rattle.std.proofs.Common.{refl, sym}
use Rattle.kilim_link_spec.specs.Types.{itself}
use Rattle.kilim_link_members.proofs.frames.Loops.{one_more, not_there, all_made}
use Rattle.kilim_link_members.proofs.frames.slots.all_there.Goals as goal

pub returns-in-None : goal.returns-in-None
returns-in-None c = not_there itself c.args.slots.now c.loop-slot.slot-index _ _ c.loop-slot.found c.loop-slot-test.true refl c.loop-slot.invariant (sym c.in-None.is)

pub loop-slot-preserved : goal.loop-slot-preserved
loop-slot-preserved c = one_more itself c.args.slots.now c.loop-slot.slot-index _ _ c.loop-slot.found c.loop-slot-test.true refl c.loop-slot.invariant c.in-Some.there c.push.new.self (sym c.in-Some.is) c.in-Ok.ensures.ok

pub returns : goal.returns
returns c = all_made itself c.args.slots.now c.loop-slot.slot-index c.loop-slot.found c.loop-slot-test.false c.loop-slot.invariant
