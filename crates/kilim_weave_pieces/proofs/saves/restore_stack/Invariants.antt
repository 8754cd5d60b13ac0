use Rattle.std.proofs.Common.{◌≡◌, ◌≤◌, length, reverse, take}
use Rattle.kilim_weave_spec.specs.Woven.{restore_stack}
use Rattle.kilim_weave_pieces.specs.Meant.{meant}
use Rattle.kilim_weave_pieces.specs.Items.{items_of}
use Rattle.kilim_weave_pieces.proofs.saves.restore_stack.Given as goal

abbrev pub invariant-loop-left : goal.invariant-loop-left
invariant-loop-left l =
    (l.left ≤ length l.fn.stack)
    × (restore_stack (meant l.fn.plan) (reverse (take l.left l.fn.stack)) (items_of l.items) ≡ restore_stack (meant l.fn.plan) (reverse l.fn.stack) (items_of l.initial.items))

abbrev pub decreases-loop-left : goal.decreases-loop-left
decreases-loop-left l = l.left
