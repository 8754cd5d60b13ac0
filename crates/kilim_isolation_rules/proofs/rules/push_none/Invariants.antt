use Rattle.std.proofs.Common.{◌≡◌, ◌++◌, replicate, None}
use Rattle.kilim_isolation_rules.proofs.rules.push_none.Given as goal

abbrev pub invariant-loop : goal.invariant-loop
invariant-loop l = l.graph ≡ record l.initial.graph { stack = replicate l.counter None ++ l.initial.graph.stack }
