-- What going on with a run from its image comes to.
use Rattle.std.specs.Prelude.{◌≡◌, ◌≤◌, ◌⊎◌, ℕ, List, ◌++◌, length}
use Rattle.kilim_command.specs.Report.{utf16_of}
use Rattle.kilim_command.specs.Words.{limits_of}
use Rattle.kilim_fiber_laws.specs.Served.{CanServe}
use Rattle.kilim_image.specs.declared.image.Run.{Run}
use Rattle.kilim_program.specs.Program.{Program}
use Rattle.kilim_program.specs.declared.names.ClassId.{ClassId}
use Rattle.kilim_run.specs.Runs.{IsJournalOf, setting_of}
use Rattle.kilim_run_follow.specs.Follow.{CanCome, DiffersAt}
use Rattle.kilim_run_journal.specs.Text.{journal_text}
use Rattle.kilim_run_journal.specs.declared.entry.Entry.{Entry}
use Rattle.kilim_run_model.specs.State.{Setting}
use Rattle.kilim_image_command.specs.Images.{IsFaultReport, IsImageOf}
use Rattle.kilim_image_command.specs.Lines.{replay_line}
use Rattle.kilim_image_command.specs.Programs.{IsStart, IsStartReport, names_from}
use Rattle.kilim_image_command.specs.declared.resuming.Stopped.{Stopped}

-- the bytes are the image of a run that can be begun
pub record IsImage (bytes : List ℕ) : Type 0 where
  pub run : Run
  pub journal : List Entry
  pub is : IsImageOf bytes run journal
  pub program : Program
  pub class : ClassId
  pub start : IsStart (utf16_of run.main) run.files program class

-- the run of an image
abbrev pub setting_in : {bytes : List ℕ} → IsImage bytes → Setting
setting_in image = setting_of image.program image.class (limits_of image.run.steps image.run.args)

-- its journal leads to a state
pub record CanGoOn (bytes : List ℕ) : Type 0 where
  pub image : IsImage bytes
  pub came : CanCome (setting_in image) image.journal

-- with what follows them, the entries of the image are the journal of a whole run
pub record IsResumedRun (bytes text : List ℕ) : Type 0 where
  pub can : CanGoOn bytes
  pub rest : List Entry
  pub whole : IsJournalOf (setting_in can.image) (can.image.journal ++ rest)
  pub is_text : text ≡ journal_text rest

-- ---- reports

-- the class files of the image have a fault, or its main class
pub record IsPartsReport (bytes report : List ℕ) : Type 0 where
  pub run : Run
  pub journal : List Entry
  pub is : IsImageOf bytes run journal
  pub start : IsStartReport (names_from 1 run.files) (utf16_of run.main) run.files report

-- the line of the first entry that can't come
pub record IsDiffersReport (bytes report : List ℕ) : Type 0 where
  pub image : IsImage bytes
  pub number : ℕ
  pub differs : DiffersAt (setting_in image) image.journal number
  pub is_text : report ≡ replay_line number

-- what is wrong with the bytes, with the image's parts, or with its journal
abbrev pub IsResumeReport : List ℕ → List ℕ → Type 0
IsResumeReport bytes report = IsFaultReport bytes report ⊎ (IsPartsReport bytes report ⊎ IsDiffersReport bytes report)

-- ---- how the code hands on what it answers

abbrev pub IsImageReport : List ℕ → List ℕ → Type 0
IsImageReport bytes report = IsFaultReport bytes report ⊎ IsPartsReport bytes report

-- what goes on is the run of the image
pub record IsStopped (bytes : List ℕ) (stopped : Stopped) : Type 0 where
  pub image : IsImage bytes
  pub few : length image.run.files ≤ 1000
  pub set : setting_of stopped.plain stopped.main stopped.limits ≡ setting_in image
  pub journal : stopped.journal.items ≡ image.journal
  pub served : CanServe (setting_of stopped.plain stopped.main stopped.limits) stopped.woven.program stopped.woven.counted

-- the text of what follows the given entries
pub record IsBehind (given entries : List Entry) (text : List ℕ) : Type 0 where
  pub rest : List Entry
  pub parts : entries ≡ given ++ rest
  pub is_text : text ≡ journal_text rest

-- with what follows them, the given entries are the journal of a whole run
pub record IsGoneOn (set : Setting) (given : List Entry) (text : List ℕ) : Type 0 where
  pub came : CanCome set given
  pub rest : List Entry
  pub whole : IsJournalOf set (given ++ rest)
  pub is_text : text ≡ journal_text rest

pub record IsDiffersLine (set : Setting) (given : List Entry) (report : List ℕ) : Type 0 where
  pub number : ℕ
  pub differs : DiffersAt set given number
  pub is_text : report ≡ replay_line number
