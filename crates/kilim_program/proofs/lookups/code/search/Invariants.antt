use Rattle.std.proofs.Common.{◌≡◌, ℕ, drop}
use Rattle.kilim_program.specs.Lengths.{fetched}
use Rattle.kilim_program.proofs.lookups.code.search.Given as goal

abbrev pub invariant-loop-at : goal.invariant-loop-at
invariant-loop-at l = fetched (drop l.at l.code) l.end l.place ≡ fetched l.code l.end l.place
