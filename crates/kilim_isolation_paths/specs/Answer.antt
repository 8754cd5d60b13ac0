-- What the exploration answers
use Rattle.std.specs.Prelude.{◌≡◌, ℕ, List, [], ◌∷◌, Bool, true, nat_lt, nat_eq, ◌||◌, ◌&&◌}
use Rattle.std.specs.List.{AllByRecursion}
use Rattle.kilim_isolation_paths.specs.Paths.{Machine, Has, Fails, IsCrowded}
use Rattle.kilim_isolation_paths.specs.Folds.{FoldFails}
use Rattle.kilim_isolation_paths.specs.declared.machine.Exit.{Exit}
use Rattle.kilim_isolation_paths.specs.declared.report.Report.{Report}
use Rattle.kilim_isolation_paths.specs.declared.report.Explored.{Explored}
use Rattle.kilim_isolation_paths.specs.declared.report.Explored.TheVariants.{Faults, Crowded}

-- the place comes first, then the rule
abbrev pub comes_before : Report → Report → Bool
comes_before a b = nat_lt a.pc b.pc || (nat_eq a.pc b.pc && nat_lt a.rule b.rule)

-- in order, so each place and rule once
abbrev pub AreInOrder : List Report → Type 0
AreInOrder [] = Unit {0}
AreInOrder (r ∷ rs) = AllByRecursion (λ s. comes_before r s ≡ true) rs × AreInOrder rs

abbrev pub IsReported : List Report → ℕ → ℕ → Type 0
IsReported rs pc rule = (r : Report) × Has rs r × (r.pc ≡ pc) × (r.rule ≡ rule)

-- exactly the faults of all paths
pub record AreFaults {S : Type 0} (m : Machine S) (rs : List Report) : Type 0 where
  pub fail : AllByRecursion (λ r. Fails m r.path r.pc r.rule) rs
  pub all : (rest : List (Exit × ℕ)) (pc rule : ℕ) → FoldFails m rest pc rule → IsReported rs pc rule
  pub ordered : AreInOrder rs

-- the faults where no place is crowded, else a crowded place
abbrev pub IsAnswer : {S : Type 0} → Machine S → Explored → Type 0
IsAnswer m (Faults rs) = AreFaults m rs × ((place : ℕ) → IsCrowded m place → ⊥)
IsAnswer m (Crowded place) = IsCrowded m place
