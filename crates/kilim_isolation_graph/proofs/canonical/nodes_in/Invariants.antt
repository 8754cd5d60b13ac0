use Rattle.std.proofs.Common.{◌≡◌, take, map}
use Rattle.kilim_isolation_graph.specs.Canonical.{canonical_node}
use Rattle.kilim_isolation_graph.proofs.canonical.nodes_in.Given as goal

abbrev pub invariant-loop-number : goal.invariant-loop-number
invariant-loop-number l = l.new ≡ map (canonical_node l.nodes l.order) (take l.number-index l.numbers)
