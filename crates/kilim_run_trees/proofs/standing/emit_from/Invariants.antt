use Rattle.std.proofs.Common.{reverse}
use Rattle.kilim_run_state.specs.Shapes.{tree_limit}
use Rattle.kilim_run_trees.specs.Standing.{left_at}
use Rattle.kilim_run_trees.proofs.Emitting.{left_of}
use Rattle.kilim_run_trees.proofs.Remaining.{EmittingAt}
use Rattle.kilim_run_trees.proofs.standing.emit_from.Given as goal

abbrev pub invariant-loop-at : goal.invariant-loop-at
invariant-loop-at l = EmittingAt l.program l.heap tree_limit l.root l.tokens (reverse l.frames.items)

abbrev pub decreases-loop-at : goal.decreases-loop-at
decreases-loop-at l = left_of (left_at l.program l.heap tree_limit (reverse l.frames.items))
