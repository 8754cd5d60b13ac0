use Rattle.std.proofs.Common.{◌≡◌, ◌++◌, ◌-◌}
use Rattle.kilim_demo.specs.MainClass.{starts_from}
use Rattle.kilim_demo.proofs.main_class.push_starts.Given as goal

abbrev pub invariant-loop-k : goal.invariant-loop-k
invariant-loop-k l = l.code.items ++ starts_from l.k (l.count - l.k) ≡ l.fn.code.items ++ starts_from 0 l.count
