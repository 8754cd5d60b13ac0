use Rattle.std.proofs.Common.{◌≡◌, ◌-◌, ◌≤◌, List, ℕ, length, take}
use Rattle.kilim_link_world.specs.Ids.{id_in, named_in}
use Rattle.kilim_link_world.proofs.ids.Ids.new.Given as goal

abbrev pub invariant-loop-i : goal.invariant-loop-i
invariant-loop-i l = (l.i ≤ length l.classes) × ((name : List ℕ) → id_in l.places name ≡ named_in name (take l.i l.classes))

abbrev pub decreases-loop-i : goal.decreases-loop-i
decreases-loop-i l = length l.classes - l.i
