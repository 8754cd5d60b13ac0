use Rattle.std.proofs.Common.{◌≡◌, take}
use Rattle.kilim_weave_method.proofs.woven_each.copy.copy_classes.Given as goal

abbrev pub invariant-loop-at : goal.invariant-loop-at
invariant-loop-at l = l.all ≡ take l.at l.fn.classes
