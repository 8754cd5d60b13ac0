-- The run of the demo of a number, and what is written of it (own).
use Rattle.std.specs.Prelude.{◌≡◌, ℕ, true, List, [], map, Some, None, ◌⊎◌, codes}
use Rattle.kilim_program.specs.Program.{Program}
use Rattle.kilim_program.specs.declared.names.ClassId.{ClassId}
use Rattle.kilim_program.specs.Names.{class_named}
use Rattle.kilim_class_file.specs.Text.{class_text}
use Rattle.kilim_run_journal.specs.declared.entry.Entry.{Entry}
use Rattle.kilim_run_state.specs.declared.run.Limits.{Limits}
use Rattle.kilim_program.specs.Members.{is_fit_main}
use Rattle.kilim_demo.specs.Demo.{demo_of}
use Rattle.kilim_stages.specs.Accepted.{IsAcceptedOf}
use Rattle.kilim_stages.specs.Reports.{IsLinkReport, IsTypeReport, IsRulesReport}
use Rattle.kilim_run_model.specs.Runs.{Whole}
use Rattle.kilim_run_model.specs.State.{Setting}
use Rattle.kilim_weave.specs.Faults.{weave_fault}
use Rattle.kilim_stages.specs.woven_stage.Reports.{IsMethodReport}
use Rattle.kilim_command.specs.DemoLine.{demo_line}

-- the bytes of its class files, in their order
unfoldable pub demo_texts : ℕ → List (List ℕ)
demo_texts number = map class_text (demo_of number)

abbrev pub main_name : List ℕ
main_name = codes "D/Main"

-- 1,000,000 instructions of each task, and no numbers
unfoldable pub demo_limits : Limits
demo_limits = record { steps = 1000000; args = [] }

-- what is run
abbrev pub demo_run : Program → ClassId → Setting
demo_run program main = record { program = program; main = main; limits = demo_limits }

-- The class files link to an accepted program, each of whose methods can be woven, with the main class `D/Main`, and the text is the
-- line of the journal of a whole run of it.
pub record IsDemoLine (number : ℕ) (text : List ℕ) : Type 0 where
  pub program : Program
  pub accepted : IsAcceptedOf (demo_texts number) program
  pub none : weave_fault program ≡ None
  pub main : ClassId
  pub named : class_named program main_name ≡ Some main
  pub fit : is_fit_main program main ≡ true
  pub journal : List Entry
  pub whole : Whole (demo_run program main) journal
  pub is_text : text ≡ demo_line number journal

-- the report of the first stage, from linking on, that has a fault; the last one says which method can't be woven
abbrev pub IsDemoReport : ℕ → List ℕ → Type 0
IsDemoReport number text = IsLinkReport (demo_texts number) text ⊎ (IsTypeReport (demo_texts number) text ⊎ (IsRulesReport (demo_texts number) text ⊎ IsMethodReport (demo_texts number) text))
