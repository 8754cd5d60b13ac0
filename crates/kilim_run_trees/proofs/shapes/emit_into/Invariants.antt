use Rattle.std.proofs.Common.{reverse}
use Rattle.kilim_run_state.specs.Shapes.{tree_limit}
use Rattle.kilim_run_trees.specs.Moved.{tree_heap}
use Rattle.kilim_run_trees.specs.Emitted.{to_come}
use Rattle.kilim_run_trees.proofs.Emitting.{Emitting, left_of}
use Rattle.kilim_run_trees.proofs.shapes.emit_into.Given as goal

abbrev pub invariant-loop-at : goal.invariant-loop-at
invariant-loop-at l = Emitting l.program l.objects tree_limit l.tokens (reverse l.frames.items)

abbrev pub decreases-loop-at : goal.decreases-loop-at
decreases-loop-at l = left_of (to_come l.program (tree_heap l.objects) tree_limit l.objects (reverse l.frames.items))
