use Rattle.std.proofs.Common.{◌≡◌, ◌-◌, ◌≤◌, Some, length}
use Rattle.kilim_link_inherited.specs.Inherited.{line_up}
use Rattle.kilim_link_inherited.specs.Fronts.{class_after}
use Rattle.kilim_link_inherited.proofs.class_trees.push_front.Given as goal

abbrev pub invariant-loop-left : goal.invariant-loop-left
invariant-loop-left l = record {
  some : l.left ≤ length l.ups;
  classes_are : l.classes ≡ line_up l.ups (length l.ups - l.left) l.class;
  here : class_after l.ups (length l.ups - l.left) l.class ≡ Some l.at;
}

abbrev pub decreases-loop-left : goal.decreases-loop-left
decreases-loop-left l = l.left
