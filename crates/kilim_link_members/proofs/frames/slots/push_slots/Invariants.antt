use Rattle.std.proofs.Common.{◌≡◌, ◌++◌, map, take}
use Rattle.kilim_link_spec.specs.Frames.{slot_in}
use Rattle.kilim_link_members.proofs.frames.slots.push_slots.Given as goal

abbrev pub invariant-loop-slot : goal.invariant-loop-slot
invariant-loop-slot l = l.into ≡ l.fn.into ++ map (slot_in l.world l.pool) (take l.slot-index l.slots)
