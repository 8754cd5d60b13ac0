use Rattle.std.proofs.Common.{◌≡◌, ◌∷◌, ℤ, ℕ, map, take}
use Rattle.kilim_type_flow.proofs.targets.of_pairs.Given as goal

abbrev pub invariant-loop-pair : goal.invariant-loop-pair
invariant-loop-pair l = l.all.items ≡ l.first ∷ map (λ (pair : ℤ × ℕ). pair.1) (take l.pair-index l.pairs)
