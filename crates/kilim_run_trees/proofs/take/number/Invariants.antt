use Rattle.std.proofs.Common.{◌≡◌, ◌≤◌, ℕ, List, [], ◌∷◌, reverse, length}
use Rattle.std.specs.Vec.{vec_capacity}
use Rattle.kilim_run_state.specs.declared.value.Object.{Object}
use Rattle.kilim_run_trees.specs.Walk.{Leads, objects}
use Rattle.kilim_run_trees.proofs.Renumbering.{HoldsFor}
use Rattle.kilim_run_trees.proofs.take.number.Given as goal

abbrev pub invariant-loop-k : goal.invariant-loop-k
invariant-loop-k l = record {
  holds : (root : ℕ) (entries : List (ℕ × Object)) → Leads (root ∷ []) entries [] → objects entries ≡ l.initial.objects.items → HoldsFor root entries l.objects.items (reverse l.stack.items) l.k;
  within : l.k ≤ length l.objects.items;
  same_length : length l.objects.items ≡ length l.initial.objects.items;
  capacity : vec_capacity l.stack ≡ vec_capacity l.initial.stack;
}

abbrev pub decreases-loop-k : goal.decreases-loop-k
decreases-loop-k l = l.k
