use Rattle.std.proofs.Common.{◌≤◌, length, drop}
use Rattle.kilim_link_inherited.specs.Fronts.{said_onto}
use Rattle.kilim_link_inherited.specs.Trees.{Makes, Has, Fits, value_at, key_levels}
use Rattle.kilim_link_inherited.proofs.class_trees.put_classes.Given as goal

abbrev pub invariant-loop-left : goal.invariant-loop-left
invariant-loop-left l = record {
  some : l.left ≤ length l.classes;
  makes : Makes l.fn.nodes l.nodes l.made;
  has : Has l.nodes key_levels l.made (λ k. said_onto l.entries k (drop l.left l.classes) (value_at l.fn.nodes key_levels l.fn.tree k));
  fits : Fits l.nodes key_levels l.made;
}

abbrev pub decreases-loop-left : goal.decreases-loop-left
decreases-loop-left l = l.left
