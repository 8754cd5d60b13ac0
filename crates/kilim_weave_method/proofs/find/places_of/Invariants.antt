use Rattle.std.proofs.Common.{length}
use Rattle.kilim_weave_pieces.specs.Items.{items_of}
use Rattle.kilim_weave_method.specs.Found.{Finds}
use Rattle.kilim_weave_method.proofs.find.places_of.Given as goal

abbrev pub invariant-loop-item : goal.invariant-loop-item
invariant-loop-item l = Finds (items_of l.initial.left) l.places (items_of l.left)

abbrev pub decreases-loop-item : goal.decreases-loop-item
decreases-loop-item l = length (items_of l.left)
