-- What saving a run comes to.
use Rattle.std.specs.Prelude.{◌≡◌, ◌≤◌, ℕ, List, length, ◌⊎◌}
use Rattle.kilim_command.specs.Report.{utf16_of}
use Rattle.kilim_image.specs.Text.{image_limit, image_text}
use Rattle.kilim_image.specs.Writing.{IsWritten}
use Rattle.kilim_image.specs.declared.image.Run.{Run}
use Rattle.kilim_program.specs.Program.{Program}
use Rattle.kilim_program.specs.declared.names.ClassId.{ClassId}
use Rattle.kilim_run.specs.Runs.{IsCourseOf, setting_of}
use Rattle.kilim_run_journal.specs.Text.{journal_text}
use Rattle.kilim_run_journal.specs.declared.entry.Entry.{Entry}
use Rattle.kilim_run_model.specs.State.{Setting}
use Rattle.kilim_run_state.specs.declared.run.Limits.{Limits}
use Rattle.kilim_image_command.specs.Images.{IsSizeReport}
use Rattle.kilim_image_command.specs.Programs.{IsStart, IsStartReport}
use Rattle.kilim_image_command.specs.declared.saving.Saved.{Saved}

-- which run it is: the words' name of the main class and limits, and the class files
abbrev pub run_of : (main : List ℕ) → Limits → (files : List (List ℕ)) → Run
run_of main limits files = record { steps = limits.steps; args = limits.args; main = main; files = files }

-- The journal is that of a run that was stopped with so many entries, or is at rest.
pub record IsCourseHere (main : List ℕ) (limits : Limits) (few : ℕ) (files : List (List ℕ)) (journal : List Entry) : Type 0 where
  pub program : Program
  pub class : ClassId
  pub start : IsStart (utf16_of main) files program class
  pub course : IsCourseOf (setting_of program class limits) few journal

-- what is written: the image of a run that was stopped, and its journal
pub record IsSavedRun (main : List ℕ) (limits : Limits) (few : ℕ) (files : List (List ℕ)) (image text : List ℕ) : Type 0 where
  pub journal : List Entry
  pub here : IsCourseHere main limits few files journal
  pub written : IsWritten (run_of main limits files) (journal_text journal) image
  pub is_text : text ≡ journal_text journal

-- the image of a run that was stopped has too many bytes
pub record IsTooLarge (main : List ℕ) (limits : Limits) (few : ℕ) (files : List (List ℕ)) (report : List ℕ) : Type 0 where
  pub journal : List Entry
  pub here : IsCourseHere main limits few files journal
  pub size : IsSizeReport (run_of main limits files) (journal_text journal) report

-- the report of the first stage that has a fault, or that the image has too many bytes
abbrev pub IsSaveReport : (names : List (List ℕ)) (main : List ℕ) → Limits → (few : ℕ) (files : List (List ℕ)) (report : List ℕ) → Type 0
IsSaveReport names main limits few files report = IsStartReport names (utf16_of main) files report ⊎ IsTooLarge main limits few files report

-- the run can be begun, and wherever it is stopped its image hasn't too many bytes
pub record CanBeSaved (main : List ℕ) (limits : Limits) (few : ℕ) (files : List (List ℕ)) : Type 0 where
  pub program : Program
  pub class : ClassId
  pub start : IsStart (utf16_of main) files program class
  pub small : (journal : List Entry) → IsCourseOf (setting_of program class limits) few journal → length (image_text (run_of main limits files) (journal_text journal)) ≤ image_limit

-- ---- how the code hands on what it answers

-- the bytes of the image with that journal, and the journal's text
pub record IsSavedAs (run : Run) (journal : List Entry) (saved : Saved) : Type 0 where
  pub image : IsWritten run (journal_text journal) saved.image.items
  pub text : saved.text.items ≡ journal_text journal

pub record IsSaved (set : Setting) (few : ℕ) (run : Run) (saved : Saved) : Type 0 where
  pub journal : List Entry
  pub course : IsCourseOf set few journal
  pub is : IsSavedAs run journal saved

pub record IsSaveSize (set : Setting) (few : ℕ) (run : Run) (report : List ℕ) : Type 0 where
  pub journal : List Entry
  pub course : IsCourseOf set few journal
  pub size : IsSizeReport run (journal_text journal) report
