use Rattle.std.proofs.Common.{◌≡◌, ◌-◌, reverse, vec_len}
use Rattle.std.specs.Vec.{vec_capacity}
use Rattle.kilim_run_trees.proofs.Taking.{Taking}
use Rattle.kilim_run_trees.proofs.take.collect.Given as goal

abbrev pub invariant-loop-at : goal.invariant-loop-at
invariant-loop-at l = record {
  taking : Taking l.initial.heap l.root l.heap (reverse l.stack.items) l.objects.items (vec_capacity l.objects) (vec_capacity l.stack);
  capacity : vec_capacity l.stack ≡ vec_capacity l.initial.stack;
}

abbrev pub decreases-loop-at : goal.decreases-loop-at
decreases-loop-at l = vec_capacity l.objects - vec_len l.objects
