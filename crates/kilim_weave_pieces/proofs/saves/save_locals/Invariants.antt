use Rattle.std.proofs.Common.{◌≡◌, ◌≤◌, length, drop}
use Rattle.kilim_weave_spec.specs.Woven.{save_locals}
use Rattle.kilim_weave_pieces.specs.Meant.{meant}
use Rattle.kilim_weave_pieces.specs.Items.{items_of}
use Rattle.kilim_weave_pieces.proofs.saves.save_locals.Given as goal

abbrev pub invariant-loop-left : goal.invariant-loop-left
invariant-loop-left l = (l.left ≤ length l.fn.locals) × ((items_of l.items) ≡ save_locals (meant l.fn.plan) (drop l.left l.fn.locals) (items_of l.initial.items))

abbrev pub decreases-loop-left : goal.decreases-loop-left
decreases-loop-left l = l.left
