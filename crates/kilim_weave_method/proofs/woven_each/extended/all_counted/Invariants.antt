use Rattle.std.proofs.Common.{◌≡◌}
use Rattle.kilim_weave_method.proofs.woven_each.Counting.{trues}
use Rattle.kilim_weave_method.proofs.woven_each.extended.all_counted.Given as goal

abbrev pub invariant-loop : goal.invariant-loop
invariant-loop l = l.all ≡ trues l.counter
