use Rattle.std.proofs.Common.{◌∙◌, ap, sym, arith}
use Rattle.std.proofs.lemmas.List.{drop_all}
use Rattle.kilim_isolation.specs.Mark.{nodes_mixed}
use Rattle.kilim_isolation.proofs.mark.nodes_mixed.Goals as goal

pub returns : goal.returns
returns c = ap (nodes_mixed c.loop-node.mark) (sym (drop_all c.loop-node.node-index c.args.nodes.now (omega arith))) ∙ c.loop-node.invariant
