-- The first unit of some units, and those behind it.
use Rattle.std.proofs.Common.{◌≡◌, ◌-◌, ◌∙◌, ℕ, suc, List, [], ◌∷◌, length, take, drop, refl, ap, arith}

one_less : (n : ℕ) → suc n - 1 ≡ n
one_less n = omega arith

take_all : (units : List ℕ) → take (length units) units ≡ units
take_all [] = refl
take_all (u ∷ units) = ap (λ (us : List ℕ). u ∷ us) (take_all units)

pub behind_first : (units : List ℕ) → take (length units - 1) (drop 1 units) ≡ drop 1 units
behind_first [] = refl
behind_first (u ∷ units) = ap (λ (n : ℕ). take n units) (one_less (length units)) ∙ take_all units
