use Rattle.std.proofs.Common.{◌∙◌, ap, map, arith, refl}
use Rattle.kilim_isolation_graph.specs.Canonical.{canonical_node}
use Rattle.kilim_isolation_graph.proofs.Loops.{mapped, mapped_all}
use Rattle.kilim_isolation_graph.proofs.canonical.nodes_in.Goals as goal

pub loop-number-preserved : goal.loop-number-preserved
loop-number-preserved c =
    mapped (canonical_node c.args.nodes.now c.args.order.now) c.loop-number.new c.push.new.self c.as_slice-numbers.result.now c.loop-number.number-index 0 _ c.loop-number-test.true c.loop-number.invariant
    (rw (c.index_of.ensures, c.in-Ok.ensures, c.parent_in.ensures, c.is_gone.ensures, c.node_at-node.ensures, c.as_slice-numbers.ensures) refl) c.in-Ok-push.ensures.ok

pub returns : goal.returns
returns c = mapped_all (canonical_node c.args.nodes.now c.args.order.now) c.loop-number.new c.as_slice-numbers.result.now c.loop-number.number-index (omega arith) c.loop-number.invariant ∙ ap (map (canonical_node c.args.nodes.now c.args.order.now)) c.as_slice-numbers.ensures
