use Rattle.std.proofs.Common.{◌≡◌, ◌++◌, [], drop, reverse}
use Rattle.kilim_isolation_graph.specs.Canonical.{firsts}
use Rattle.kilim_isolation_graph.proofs.order.firsts.Given as goal

abbrev pub invariant-loop-number : goal.invariant-loop-number
invariant-loop-number l = l.order ++ firsts (reverse l.order) (drop l.number-index l.numbers) ≡ firsts [] l.numbers
