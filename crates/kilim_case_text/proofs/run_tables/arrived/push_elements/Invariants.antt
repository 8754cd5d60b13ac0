use Rattle.std.proofs.Common.{◌≡◌, ◌≤◌, ◌++◌, length, reverse, drop}
use Rattle.kilim_run_trees.specs.Walk.{element_refs}
use Rattle.kilim_case_text.proofs.run_tables.arrived.push_elements.Given as goal

abbrev pub invariant-loop-k : goal.invariant-loop-k
invariant-loop-k l = record {
  within : l.k ≤ length l.values;
  items : l.pending.items ≡ l.initial.pending.items ++ reverse (element_refs (drop l.k l.values));
}

abbrev pub decreases-loop-k : goal.decreases-loop-k
decreases-loop-k l = l.k
