use Rattle.std.proofs.Common.{◌≡◌, take}
use Rattle.kilim_link_override_faults.specs.Heritage.{left_by_class}
use Rattle.kilim_link_override_faults.proofs.heritage.all_left_said.Given as goal

abbrev pub invariant-loop-view : goal.invariant-loop-view
invariant-loop-view l = l.said ≡ left_by_class (take l.view-index l.classes)
