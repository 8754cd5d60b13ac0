-- What a step answers.
use Rattle.std.specs.Prelude.{◌≡◌, ℕ, Option, Some, None, Result, Ok, Err}
use Rattle.kilim_type_spec.specs.Step.{Types}
use Rattle.kilim_isolation_graph.specs.declared.graph.Graph.{Graph}
use Rattle.kilim_isolation_rules.specs.declared.rules.StepFault.{StepFault}
use Rattle.kilim_isolation_rules.specs.declared.rules.StepFault.TheVariants.{Rule, Memory}

-- the graph or the rule that is meant, or want of memory
abbrev pub IsStep : Result Graph ℕ → Result Graph StepFault → Type 0
IsStep meant (Ok graph) = meant ≡ Ok graph
IsStep meant (Err (Rule n)) = meant ≡ Err n
IsStep meant (Err Memory) = Unit {0}

-- the types that an instruction leaves, or none where a rule of typing is broken
abbrev pub IsLeft : Result Types ℕ → Option Types → Type 0
IsLeft meant None = (n : ℕ) × (meant ≡ Err n)
IsLeft meant (Some types) = meant ≡ Ok types
