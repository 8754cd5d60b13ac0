use Rattle.std.proofs.Common.{◌≡◌, reverse, take}
use Rattle.kilim_weave_spec.specs.Woven.{save_stack}
use Rattle.kilim_weave_pieces.specs.Meant.{meant}
use Rattle.kilim_weave_pieces.specs.Items.{items_of}
use Rattle.kilim_weave_pieces.proofs.saves.save_stack.Given as goal

abbrev pub invariant-loop-at : goal.invariant-loop-at
invariant-loop-at l = (items_of l.items) ≡ save_stack (meant l.fn.plan) (reverse (take l.at l.fn.stack)) (items_of l.initial.items)
