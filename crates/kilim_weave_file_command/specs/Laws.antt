-- Laws: no class files can be woven and are reported, and those that are accepted link to a program none of whose runs shares an
-- object.
use Rattle.std.specs.Prelude.{◌≡◌, ◌≤◌, ℕ, List, length, true}
use Rattle.kilim_isolation_laws.specs.accepted_runs.Laws.{setting_of}
use Rattle.kilim_program.specs.declared.names.ClassId.{ClassId}
use Rattle.kilim_program.specs.Program.{Program}
use Rattle.kilim_run_state.specs.declared.run.Limits.{Limits}
use Rattle.kilim_program.specs.Members.{is_fit_main}
use Rattle.kilim_isolation_laws.specs.reached_objects.Laws.{AreLive}
use Rattle.kilim_stages.specs.Accepted.{IsAcceptedOf}
use Rattle.kilim_run_model.specs.Reach.{Liveness, PlaysIsolated}
use Rattle.kilim_weave_file_command.specs.woven_files.Reports.{IsWeaveReport}
use Rattle.kilim_weave_file_command.specs.Weaving.{IsWeavable}

abbrev pub NeverWeavableAndReported : Type 0
NeverWeavableAndReported = (names files : List (List ℕ)) (text : List ℕ) → IsWeavable files → IsWeaveReport names files text → ⊥

-- in no interleaving of the program's threads is an object reached by two of them, whatever its main class and the limits
abbrev pub AcceptedFilesAreIsolated : Type 0
AcceptedFilesAreIsolated = (files : List (List ℕ)) (p : Program) → length files ≤ 1000 → IsAcceptedOf files p → (main : ClassId) → is_fit_main p main ≡ true → (limits : Limits) → (live : Liveness) → AreLive p live → PlaysIsolated live (setting_of p main limits)
