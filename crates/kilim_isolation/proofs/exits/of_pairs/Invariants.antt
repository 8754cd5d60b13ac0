use Rattle.std.proofs.Common.{◌≡◌, ◌++◌, ◌∷◌, Some, map, drop, ℕ, ℤ}
use Rattle.kilim_isolation.proofs.exits.of_pairs.Given as goal

abbrev pub invariant-loop-pair : goal.invariant-loop-pair
invariant-loop-pair l = l.exits ++ map Some (map (λ (p : ℤ × ℕ). p.1) (drop l.pair-index l.pairs)) ≡ Some l.default ∷ map Some (map (λ (p : ℤ × ℕ). p.1) l.pairs)
