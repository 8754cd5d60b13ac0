use Rattle.std.proofs.Common.{◌≡◌, ◌+◌, drop}
use Rattle.kilim_isolation_graph.specs.Canonical.{index_of}
use Rattle.kilim_isolation_graph.proofs.numbers.index_of.Given as goal

abbrev pub invariant-loop-number : goal.invariant-loop-number
invariant-loop-number l = (l.at ≡ l.number-index) × (l.at + index_of l.wanted (drop l.number-index l.numbers) ≡ index_of l.wanted l.numbers)
