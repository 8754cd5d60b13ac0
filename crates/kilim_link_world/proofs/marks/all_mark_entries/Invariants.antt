use Rattle.std.proofs.Common.{◌≡◌, map, take}
use Rattle.kilim_link_world.specs.Superclasses.{mark_entries}
use Rattle.kilim_link_world.proofs.marks.all_mark_entries.Given as goal

abbrev pub invariant-loop-mark : goal.invariant-loop-mark
invariant-loop-mark l = l.entries ≡ map mark_entries (take l.mark-index l.own)
