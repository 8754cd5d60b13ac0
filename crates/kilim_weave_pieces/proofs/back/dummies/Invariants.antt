use Rattle.std.proofs.Common.{◌≡◌, ◌≤◌, length, drop}
use Rattle.kilim_weave_spec.specs.Woven.{dummies}
use Rattle.kilim_weave_pieces.specs.Items.{items_of}
use Rattle.kilim_weave_pieces.proofs.back.dummies.Given as goal

abbrev pub invariant-loop-left : goal.invariant-loop-left
invariant-loop-left l = (l.left ≤ length l.fn.params) × ((items_of l.items) ≡ dummies (drop l.left l.fn.params) (items_of l.initial.items))

abbrev pub decreases-loop-left : goal.decreases-loop-left
decreases-loop-left l = l.left
