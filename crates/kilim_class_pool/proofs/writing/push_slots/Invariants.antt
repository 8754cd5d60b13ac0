use Rattle.std.proofs.Common.{◌≡◌, ◌++◌, drop}
use Rattle.std.specs.List.{flat_map}
use Rattle.kilim_class_pool.specs.Slots.{slot_text}
use Rattle.kilim_class_pool.proofs.writing.push_slots.Given as goal

abbrev pub invariant-loop-slot : goal.invariant-loop-slot
invariant-loop-slot l = l.into.items ++ flat_map slot_text (drop l.slot-index l.slots) ≡ l.fn.into.items ++ flat_map slot_text l.slots
