use Rattle.std.proofs.Common.{◌≡◌, take}
use Rattle.std.specs.List.{flat_map}
use Rattle.kilim_link_spec.specs.Frames.{local_slots}
use Rattle.kilim_link_members.proofs.frames.slots.slots_of.Given as goal

abbrev pub invariant-loop-local : goal.invariant-loop-local
invariant-loop-local l = l.slots ≡ flat_map local_slots (take l.local-index l.locals)
