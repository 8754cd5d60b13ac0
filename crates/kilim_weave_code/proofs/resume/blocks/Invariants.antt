use Rattle.std.proofs.Common.{◌≡◌, ◌≤◌, ◌+◌, length, take, drop}
use Rattle.kilim_weave_spec.specs.Weight.{calls_in}
use Rattle.kilim_weave_spec.specs.Woven.{blocks}
use Rattle.kilim_weave_pieces.specs.Meant.{meant}
use Rattle.kilim_weave_pieces.specs.Items.{items_of}
use Rattle.kilim_weave_code.proofs.resume.blocks.Given as goal

abbrev pub invariant-loop-left : goal.invariant-loop-left
invariant-loop-left l =
    (l.left ≤ length l.fn.plan.method.now.code)
    × (l.number ≡ 1 + calls_in l.fn.plan.program.now (take l.left l.fn.plan.method.now.code))
    × ((items_of l.items) ≡ blocks (meant l.fn.plan) l.number (drop l.left l.fn.plan.method.now.code))

abbrev pub decreases-loop-left : goal.decreases-loop-left
decreases-loop-left l = l.left
