-- What the calls answer.
use Rattle.std.specs.Prelude.{◌≡◌, ℕ, Option, Some, None, Result, Ok, Err}
use Rattle.std.specs.Borrow.{Bor}
use Rattle.kilim_program.specs.declared.class.Method.{Method}
use Rattle.kilim_program.specs.declared.instr.Instr.{Instr}
use Rattle.kilim_program.specs.Program.{Program}
use Rattle.kilim_type_spec.specs.Step.{Types}
use Rattle.kilim_isolation_graph.specs.declared.graph.Graph.{Graph}
use Rattle.kilim_isolation_rules.specs.declared.rules.StepFault.{StepFault}
use Rattle.kilim_isolation_rules.specs.Answers.{IsStep}
use Rattle.kilim_isolation_paths.specs.declared.machine.Exit.{Exit}
use Rattle.kilim_isolation.specs.Walks.{canonical_of, left_towards}

abbrev pub looked : Option (Bor Instr × ℕ) → Option (Instr × ℕ)
looked None = None
looked (Some found) = Some (found.0.now, found.1)

abbrev pub IsStepOf : Program → Method → Graph → Types → Instr → Exit → Option Types → Result Graph StepFault → Type 0
IsStepOf p m g f i x after result = IsStep (canonical_of after (left_towards p m g f i x after)) result

-- the graph with which a method begins, or none where rule 6 is broken
abbrev pub IsFirst : Result Graph ℕ → Option Graph → Type 0
IsFirst meant None = meant ≡ Err 6
IsFirst meant (Some graph) = meant ≡ Ok graph
