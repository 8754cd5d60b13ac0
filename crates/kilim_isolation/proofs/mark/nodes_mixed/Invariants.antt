use Rattle.std.proofs.Common.{◌≡◌, drop}
use Rattle.kilim_isolation.specs.Mark.{nodes_mixed}
use Rattle.kilim_isolation.proofs.mark.nodes_mixed.Given as goal

abbrev pub invariant-loop-node : goal.invariant-loop-node
invariant-loop-node l = nodes_mixed l.mark (drop l.node-index l.nodes) ≡ nodes_mixed l.fn.mark l.nodes
