use Rattle.std.proofs.Common.{◌≡◌, map, take}
use Rattle.kilim_weave_spec.specs.Form.{all_counted}
use Rattle.kilim_weave_method.proofs.woven_each.methods.all_marks.Given as goal

abbrev pub invariant-loop-at : goal.invariant-loop-at
invariant-loop-at l = l.all ≡ map all_counted (take l.at l.fn.methods)
