use Rattle.std.proofs.Common.{◌≡◌, ◌++◌, ◌+◌, ◌-◌}
use Rattle.kilim_demo.specs.MainClass.{stage_entries_from}
use Rattle.kilim_demo.proofs.main_class.add_stages.Given as goal

abbrev pub invariant-loop-k : goal.invariant-loop-k
invariant-loop-k l = l.pool ++ stage_entries_from (l.k + 1) (l.stages - l.k) ≡ l.fn.pool ++ stage_entries_from 1 l.stages
