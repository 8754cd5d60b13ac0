use Rattle.std.proofs.Common.{◌++◌}
use Rattle.std.specs.List.{flat_map}
use Rattle.kilim_lemmas.proofs.Walks.{ahead, all_ahead}
use Rattle.kilim_class_pool.specs.Slots.{slot_text}
use Rattle.kilim_class_pool.proofs.writing.push_slots.Goals as goal

pub loop-slot-preserved : goal.loop-slot-preserved
loop-slot-preserved c =
    ahead slot_text c.loop-slot.into.items c.push_slot.new.into.items (c.args.into.now.items ++ flat_map slot_text c.args.slots.now) c.args.slots.now c.loop-slot.slot-index c.slot-item.result _
    c.loop-slot-test.true c.slot-item.is c.loop-slot.invariant c.in-Ok.ensures.ok

pub returns : goal.returns
returns c = record { ok = all_ahead slot_text c.loop-slot.into.items (c.args.into.now.items ++ flat_map slot_text c.args.slots.now) c.args.slots.now c.loop-slot.slot-index c.loop-slot-test.false c.loop-slot.invariant }
