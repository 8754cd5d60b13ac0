use Rattle.std.proofs.Common.{◌≤◌, length, drop}
use Rattle.kilim_link_inherited.specs.Inherited.{said_in, said_or}
use Rattle.kilim_link_inherited.specs.Trees.{Makes, Has, Fits, value_at, key_levels}
use Rattle.kilim_link_inherited.proofs.put.put_entries.Given as goal

abbrev pub invariant-loop-left : goal.invariant-loop-left
invariant-loop-left l = record {
  some : l.left ≤ length l.entries;
  makes : Makes l.fn.nodes l.nodes l.made;
  has : Has l.nodes key_levels l.made (λ k. said_or (said_in (drop l.left l.entries) k) (value_at l.fn.nodes key_levels l.fn.tree k));
  fits : Fits l.nodes key_levels l.made;
}

abbrev pub decreases-loop-left : goal.decreases-loop-left
decreases-loop-left l = l.left
