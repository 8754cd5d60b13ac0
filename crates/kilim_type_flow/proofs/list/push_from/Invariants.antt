use Rattle.std.proofs.Common.{◌≡◌, ◌++◌, map, drop}
use Rattle.kilim_type_flow.specs.Listing.{from_to}
use Rattle.kilim_type_flow.proofs.list.push_from.Given as goal

abbrev pub invariant-loop-to : goal.invariant-loop-to
invariant-loop-to l = l.pairs.items ++ map (from_to l.from) (drop l.to-index l.tos) ≡ l.initial.pairs.items ++ map (from_to l.from) l.tos
