-- What `replay` says of the text of a journal, for class files, a main class and limits: that it is that of a whole run, or the report of the
-- first stage that has a fault. The rules of isolation and pausing aren't asked.
use Rattle.std.specs.Prelude.{◌≡◌, ◌≢◌, ◌<◌, ◌≤◌, ℕ, true, List, length, Some, ◌⊎◌}
use Rattle.kilim_command.specs.Report.{named_line}
use Rattle.kilim_program.specs.Members.{is_fit_main}
use Rattle.kilim_program.specs.Names.{class_named}
use Rattle.kilim_program.specs.Program.{Program}
use Rattle.kilim_program.specs.declared.names.ClassId.{ClassId}
use Rattle.kilim_replay_laws.specs.Verdicts.{IsVerdict}
use Rattle.kilim_replay_laws.specs.declared.verdict.Verdict.{Verdict}
use Rattle.kilim_replay_laws.specs.declared.verdict.Verdict.TheVariants as verdict
use Rattle.kilim_run_journal.specs.Read.{IsBadLine, IsJournal}
use Rattle.kilim_run_journal.specs.declared.entry.Entry.{Entry}
use Rattle.kilim_run_model.specs.Runs.{Whole}
use Rattle.kilim_run_model.specs.State.{Setting}
use Rattle.kilim_run_state.specs.declared.run.Limits.{Limits}
use Rattle.kilim_stages.specs.Accepted.{IsTypedOf}
use Rattle.kilim_stages.specs.Reports.{IsTypingReport}
use Rattle.kilim_replay_command.specs.Lines.{bad_line, too_large_line, verdict_line}

-- the run of a program with a main class
abbrev pub run_of : Program → ClassId → Limits → Setting
run_of program main limits = record { program = program; main = main; limits = limits }

-- the most bytes of a journal's text
unfoldable pub text_limit : ℕ
text_limit = 16777216

-- the class files link to a well-typed program, and the text is that of a journal
pub record IsToReplay (files : List (List ℕ)) (text : List ℕ) (program : Program) (journal : List Entry) : Type 0 where
  pub typed : IsTypedOf files program
  pub few : length text ≤ text_limit
  pub is : IsJournal text journal

-- the main class of that name, which is fit to be one
pub record IsMain (program : Program) (name : List ℕ) (main : ClassId) : Type 0 where
  pub named : class_named program name ≡ Some main
  pub fit : is_fit_main program main ≡ true

-- ---- what is done

-- the text is that of the journal of a whole run
pub record IsWholeJournal (name : List ℕ) (limits : Limits) (files : List (List ℕ)) (text : List ℕ) : Type 0 where
  pub program : Program
  pub journal : List Entry
  pub replayed : IsToReplay files text program journal
  pub main : ClassId
  pub is_main : IsMain program name main
  pub whole : Whole (run_of program main limits) journal

-- and this is the line that says so
pub record IsReplayed (name : List ℕ) (limits : Limits) (files : List (List ℕ)) (text line : List ℕ) : Type 0 where
  pub whole : IsWholeJournal name limits files text
  pub is_line : line ≡ verdict_line (length whole.journal) verdict.Whole

-- ---- reports

-- no journal has that text, and that line is the first that is no entry's
pub record IsBadText (text : List ℕ) (line : ℕ) : Type 0 where
  pub none : (journal : List Entry) → IsJournal text journal → ⊥
  pub bad : IsBadLine text line

-- the text has too many bytes, or a line that is no entry's
abbrev pub IsTextReport : List ℕ → List ℕ → Type 0
IsTextReport text report = ((text_limit < length text) × (report ≡ too_large_line)) ⊎ ((length text ≤ text_limit) × (line : ℕ) × IsBadText text line × (report ≡ bad_line line))

-- the class files link to a well-typed program
pub record IsJournalReport (files : List (List ℕ)) (text report : List ℕ) : Type 0 where
  pub program : Program
  pub typed : IsTypedOf files program
  pub is_text : IsTextReport text report

-- no class of that name is fit to be the main class
pub record IsMainReport (name : List ℕ) (files : List (List ℕ)) (text report : List ℕ) : Type 0 where
  pub program : Program
  pub journal : List Entry
  pub replayed : IsToReplay files text program journal
  pub none : (main : ClassId) → IsMain program name main → ⊥
  pub is_text : report ≡ named_line name

-- what is wrong with the journal first
pub record IsVerdictReport (name : List ℕ) (limits : Limits) (files : List (List ℕ)) (text report : List ℕ) : Type 0 where
  pub program : Program
  pub journal : List Entry
  pub replayed : IsToReplay files text program journal
  pub main : ClassId
  pub is_main : IsMain program name main
  pub found : Verdict
  pub is : IsVerdict (run_of program main limits) journal found
  pub wrong : found ≢ verdict.Whole
  pub is_text : report ≡ verdict_line (length journal) found

-- the report of the first stage that has a fault
abbrev pub IsReplayReport : (names : List (List ℕ)) (name : List ℕ) → Limits → (files : List (List ℕ)) (text report : List ℕ) → Type 0
IsReplayReport names name limits files text report =
    IsTypingReport names files report ⊎ (IsJournalReport files text report ⊎ (IsMainReport name files text report ⊎ IsVerdictReport name limits files text report))
