use Rattle.std.proofs.Common.{◌≡◌, ◌≤◌, ◌++◌, length, reverse, drop}
use Rattle.std.specs.Vec.{vec_capacity}
use Rattle.kilim_run_trees.specs.Walk.{element_refs}
use Rattle.kilim_run_trees.proofs.reserve.push_elements.Given as goal

abbrev pub invariant-loop-k : goal.invariant-loop-k
invariant-loop-k l = record {
  within : l.k ≤ length l.values;
  items : l.stack.items ≡ l.initial.stack.items ++ reverse (element_refs (drop l.k l.values));
  capacity : vec_capacity l.stack ≡ vec_capacity l.initial.stack;
}

abbrev pub decreases-loop-k : goal.decreases-loop-k
decreases-loop-k l = l.k
