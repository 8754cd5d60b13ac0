use Rattle.std.proofs.Common.{◌≡◌, ◌++◌, take}
use Rattle.std.specs.List.{flat_map}
use Rattle.kilim_link_spec.specs.Mentions.{mentions_of_slot}
use Rattle.kilim_link_mentions.proofs.frames.push_slots.Given as goal

abbrev pub invariant-loop-slot : goal.invariant-loop-slot
invariant-loop-slot l = l.into ≡ l.fn.into ++ flat_map (mentions_of_slot l.pool) (take l.slot-index l.slots)
