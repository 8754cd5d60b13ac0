use Rattle.std.proofs.Common.{◌≡◌, reverse, length}
use Rattle.std.specs.Vec.{vec_capacity}
use Rattle.kilim_run_trees.specs.Walk.{value_refs}
use Rattle.kilim_run_trees.specs.Steps.{Alike}
use Rattle.kilim_run_trees.proofs.Numbering.{Numbering}
use Rattle.kilim_run_trees.proofs.take.number_elements.Given as goal

abbrev pub invariant-loop-k : goal.invariant-loop-k
invariant-loop-k l = record {
  numbering : Numbering value_refs Alike l.initial.values.items l.values.items (reverse l.initial.stack.items) (reverse l.stack.items) l.k;
  same_length : length l.values.items ≡ length l.initial.values.items;
  capacity : vec_capacity l.stack ≡ vec_capacity l.initial.stack;
}
