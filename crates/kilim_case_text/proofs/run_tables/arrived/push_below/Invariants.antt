use Rattle.std.proofs.Common.{◌≤◌, ◌-◌, reverse}
use Rattle.kilim_run_trees.proofs.Walks.{Met}
use Rattle.kilim_case_text.proofs.run_tables.arrived.push_below.Given as goal

abbrev pub invariant-loop-at : goal.invariant-loop-at
invariant-loop-at l = record {
  met : Met l.heap l.root (reverse l.pending.items) l.count;
  small : l.count ≤ 65536;
}

abbrev pub decreases-loop-at : goal.decreases-loop-at
decreases-loop-at l = 65536 - l.count
