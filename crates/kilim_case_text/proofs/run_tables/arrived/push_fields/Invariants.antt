use Rattle.std.proofs.Common.{◌≡◌, ◌≤◌, ◌++◌, length, reverse, drop}
use Rattle.kilim_run_trees.specs.Walk.{field_refs}
use Rattle.kilim_case_text.proofs.run_tables.arrived.push_fields.Given as goal

abbrev pub invariant-loop-k : goal.invariant-loop-k
invariant-loop-k l = record {
  within : l.k ≤ length l.fields;
  items : l.pending.items ≡ l.initial.pending.items ++ reverse (field_refs (drop l.k l.fields));
}

abbrev pub decreases-loop-k : goal.decreases-loop-k
decreases-loop-k l = l.k
