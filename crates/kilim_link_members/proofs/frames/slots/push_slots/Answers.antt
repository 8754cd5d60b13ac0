use Rattle.std.proofs.Common.{◌++◌, map}
use Rattle.std.proofs.Common.{refl}
use Rattle.kilim_link_spec.specs.Frames.{slot_in}
use Rattle.kilim_link_members.proofs.frames.Loops.{more, all_in}
use Rattle.kilim_link_members.proofs.frames.slots.push_slots.Goals as goal

pub loop-slot-preserved : goal.loop-slot-preserved
loop-slot-preserved c = more (slot_in c.args.world.now c.args.pool.now) c.args.into.now c.loop-slot.into c.push.new.self c.args.slots.now c.loop-slot.slot-index _ _ c.in-Ok.found c.loop-slot-test.true refl c.loop-slot.invariant c.in-Ok.ensures c.in-Ok-push.ensures.ok

pub returns : goal.returns
returns c = all_in (λ ss. c.args.into.now ++ map (slot_in c.args.world.now c.args.pool.now) ss) c.loop-slot.into c.args.slots.now c.args.slots.now c.loop-slot.slot-index refl c.loop-slot-test.false c.loop-slot.invariant
