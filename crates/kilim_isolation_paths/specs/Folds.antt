-- Faults as the fold of whole paths
use Rattle.std.specs.Prelude.{◌≡◌, ℕ, List, [], ◌∷◌, Some, None, Result, Ok, Err, ◌⊎◌}
use Rattle.kilim_isolation_paths.specs.declared.machine.Exit.{Exit}
use Rattle.kilim_isolation_paths.specs.Paths.{Machine, Has, target}

-- from p on, each place with the edge that leads to it: there may be several from one place to the next
abbrev pub Follow : {S : Type 0} → Machine S → ℕ → List (Exit × ℕ) → Type 0
Follow m p [] = Unit {0}
Follow m p (step ∷ rest) = (target step.0 ≡ Some step.1) × Has (m.exits p) step.0 × Follow m step.1 rest

abbrev pub go_on : {S T : Type 0} → ℕ → Result S ℕ → (S → Result T (ℕ × ℕ)) → Result T (ℕ × ℕ)
go_on p (Ok s) go = go s
go_on p (Err rule) go = Err (p, rule)

-- the last place with its state, or the place and the rule of the first step that fails
abbrev pub folded : {S : Type 0} → Machine S → ℕ → S → List (Exit × ℕ) → Result (ℕ × S) (ℕ × ℕ)
folded m p s [] = Ok (p, s)
folded m p s (step ∷ rest) = go_on p (m.moves p s step.0) (λ t. folded m step.1 t rest)

-- a path from place 0 whose fold fails at pc by the rule: at a step on the path, or at the step out of its last place
abbrev pub FoldFails : {S : Type 0} → Machine S → List (Exit × ℕ) → ℕ → ℕ → Type 0
FoldFails {S} m rest pc rule =
    Follow m 0 rest
    × ((folded m 0 m.entry rest ≡ Err (pc, rule))
    ⊎ ((s : S) × (out : Exit) × (folded m 0 m.entry rest ≡ Ok (pc, s)) × (target out ≡ None) × Has (m.exits pc) out × (m.moves pc s out ≡ Err rule)))
