use Rattle.std.proofs.Common.{◌≡◌, map, take, ℕ, ℤ}
use Rattle.kilim_weave_pieces.specs.Places.{at_in}
use Rattle.kilim_weave_code.proofs.moved.moved_pairs.Given as goal

abbrev pub invariant-loop-at : goal.invariant-loop-at
invariant-loop-at l = l.all ≡ map (λ (pair : ℤ × ℕ). (pair.0, at_in l.fn.places pair.1)) (take l.at l.fn.pairs)
