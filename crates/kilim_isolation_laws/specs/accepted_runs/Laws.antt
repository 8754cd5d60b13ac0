-- Runs of a program to which class files link, and which verification and the isolation rules accept.
use Rattle.std.specs.Prelude.{◌≡◌, List, true}
use Rattle.kilim_program.specs.declared.class.Form.TheVariants.{Plain}
use Rattle.kilim_program.specs.declared.names.ClassId.{ClassId}
use Rattle.kilim_program.specs.Keeps.{Keeps}
use Rattle.kilim_program.specs.Program.{Program}
use Rattle.kilim_class_file.specs.declared.class_file.ClassFile.{ClassFile}
use Rattle.kilim_run_state.specs.declared.run.Limits.{Limits}
use Rattle.kilim_program.specs.Members.{is_fit_main}
use Rattle.kilim_run_model.specs.State.{Setting}
use Rattle.kilim_run_model.specs.Reach.{Liveness, PlaysIsolated}
use Rattle.kilim_type_spec.specs.Typed.{IsWellTyped, listed_frames}
use Rattle.kilim_isolation.specs.Faults.{IsAccepted}
use Rattle.kilim_link_spec.specs.LinksWell.{LinksWell}
use Rattle.kilim_isolation_laws.specs.reached_objects.Laws.{AreLive}
use Rattle.kilim_isolation_laws.specs.Laws.{IsRunOfAccepted}

-- the run of a program with a main class
abbrev pub setting_of : Program → ClassId → Limits → Setting
setting_of p main limits = record { program = p; main = main; limits = limits }

-- what is known of a run of an accepted program is known of its runs, whatever its limits are
abbrev pub AcceptedIsRun : Type 0
AcceptedIsRun = (files : List ClassFile) (p : Program) → LinksWell files Plain p → Keeps p → IsWellTyped p → IsAccepted (record { program = p; frames = listed_frames p }) → (main : ClassId) → is_fit_main p main ≡ true → (limits : Limits) →
    IsRunOfAccepted (setting_of p main limits)

-- in no interleaving is an object reached by two threads, by their stacks and the locals that are live
abbrev pub AcceptedIsIsolated : Type 0
AcceptedIsIsolated = (files : List ClassFile) (p : Program) → LinksWell files Plain p → Keeps p → IsWellTyped p → IsAccepted (record { program = p; frames = listed_frames p }) → (main : ClassId) → is_fit_main p main ≡ true → (limits : Limits) →
    (live : Liveness) → AreLive p live → PlaysIsolated live (setting_of p main limits)
