use Rattle.std.proofs.Common.{arith}
use Rattle.kilim_type_flow.proofs.Rising.{all_edges, none_yet, one_more}
use Rattle.kilim_type_flow.proofs.list.edges.Goals as goal

pub loop-at-init : goal.loop-at-init
loop-at-init c = rw c.new-pairs.ensures.items (none_yet c.args.method.now)

pub loop-at-preserved : goal.loop-at-preserved
loop-at-preserved c = one_more c.args.method.now c.requires c.loop-at.at c.loop-at.pairs.items c.push_edges.new.pairs.items c.loop-at.invariant c.in-Ok.ensures

pub returns : goal.returns
returns c = all_edges c.args.method.now c.requires c.loop-at.at c.loop-at.pairs.items (omega arith) c.loop-at.invariant
