use Rattle.std.proofs.Common.{length}
use Rattle.kilim_weave_pieces.specs.Items.{items_of}
use Rattle.kilim_weave_method.specs.Laid.{Follows}
use Rattle.kilim_weave_method.proofs.layout.lay.Given as goal

abbrev pub invariant-loop-item : goal.invariant-loop-item
invariant-loop-item l = Follows l.initial.laid (items_of l.initial.left) l.laid (items_of l.left)

abbrev pub decreases-loop-item : goal.decreases-loop-item
decreases-loop-item l = length (items_of l.left)
