use Rattle.std.proofs.Common.{◌≡◌, drop}
use Rattle.kilim_isolation_graph.specs.Canonical.{is_among}
use Rattle.kilim_isolation_graph.proofs.numbers.is_among.Given as goal

abbrev pub invariant-loop-number : goal.invariant-loop-number
invariant-loop-number l = is_among l.wanted (drop l.number-index l.numbers) ≡ is_among l.wanted l.numbers
