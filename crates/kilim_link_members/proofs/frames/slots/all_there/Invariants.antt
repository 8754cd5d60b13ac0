use Rattle.std.proofs.Common.{◌≡◌, drop}
use Rattle.kilim_link_spec.specs.Types.{each_of, itself}
use Rattle.kilim_link_members.specs.frames.Each.{behind}
use Rattle.kilim_link_members.proofs.frames.slots.all_there.Given as goal

abbrev pub invariant-loop-slot : goal.invariant-loop-slot
invariant-loop-slot l = behind l.found (each_of itself (drop l.slot-index l.slots)) ≡ each_of itself l.slots
