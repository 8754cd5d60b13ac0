use Rattle.std.proofs.Common.{◌≡◌, drop}
use Rattle.kilim_weave_spec.specs.Woven.{restore_locals}
use Rattle.kilim_weave_pieces.specs.Meant.{meant}
use Rattle.kilim_weave_pieces.specs.Items.{items_of}
use Rattle.kilim_weave_pieces.proofs.saves.restore_locals.Given as goal

abbrev pub invariant-loop-at : goal.invariant-loop-at
invariant-loop-at l = restore_locals (meant l.fn.plan) (drop l.at l.fn.locals) (items_of l.items) ≡ restore_locals (meant l.fn.plan) l.fn.locals (items_of l.initial.items)
