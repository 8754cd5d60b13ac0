use Rattle.kilim_type_flow.specs.Listing.{EdgesUpTo}
use Rattle.kilim_type_flow.proofs.list.edges.Given as goal

abbrev pub invariant-loop-at : goal.invariant-loop-at
invariant-loop-at l = EdgesUpTo l.fn.method l.at l.pairs.items
