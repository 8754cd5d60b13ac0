-- How the parts of the stage hand on what they answer. No clause of `replay_files` cites what stands here.
use Rattle.std.specs.Prelude.{◌≡◌, ◌≢◌, ◌≤◌, ℕ, List, length, ◌⊎◌}
use Rattle.kilim_command.specs.Report.{named_line}
use Rattle.kilim_program.specs.Program.{Program}
use Rattle.kilim_program.specs.declared.names.ClassId.{ClassId}
use Rattle.kilim_replay_laws.specs.Verdicts.{IsVerdict}
use Rattle.kilim_replay_laws.specs.declared.verdict.Verdict.{Verdict}
use Rattle.kilim_replay_laws.specs.declared.verdict.Verdict.TheVariants as verdict
use Rattle.kilim_run_journal.specs.Read.{IsJournal}
use Rattle.kilim_run_journal.specs.declared.entry.Entry.{Entry}
use Rattle.kilim_run_model.specs.Runs.{Whole}
use Rattle.kilim_run_model.specs.State.{Setting}
use Rattle.kilim_run_state.specs.declared.run.Limits.{Limits}
use Rattle.kilim_replay_command.specs.Lines.{verdict_line}
use Rattle.kilim_replay_command.specs.Replay.{IsMain, IsTextReport, run_of, text_limit}

-- the entries of a text that isn't too large
abbrev pub IsTextOf : List ℕ → List Entry → Type 0
IsTextOf text journal = (length text ≤ text_limit) × IsJournal text journal

-- ---- of a journal, with the main class

abbrev pub IsWholeLine : Setting → List Entry → List ℕ → Type 0
IsWholeLine set journal line = Whole set journal × (line ≡ verdict_line (length journal) verdict.Whole)

pub record IsVerdictLine (set : Setting) (journal : List Entry) (line : List ℕ) : Type 0 where
  pub found : Verdict
  pub is : IsVerdict set journal found
  pub wrong : found ≢ verdict.Whole
  pub is_text : line ≡ verdict_line (length journal) found

-- ---- by the name of the main class

pub record IsWholeOf (p : Program) (name : List ℕ) (limits : Limits) (journal : List Entry) (line : List ℕ) : Type 0 where
  pub main : ClassId
  pub is_main : IsMain p name main
  pub whole : IsWholeLine (run_of p main limits) journal line

pub record IsNoMain (p : Program) (name line : List ℕ) : Type 0 where
  pub none : (main : ClassId) → IsMain p name main → ⊥
  pub is_text : line ≡ named_line name

pub record IsWrong (p : Program) (name : List ℕ) (limits : Limits) (journal : List Entry) (line : List ℕ) : Type 0 where
  pub main : ClassId
  pub is_main : IsMain p name main
  pub wrong : IsVerdictLine (run_of p main limits) journal line

abbrev pub IsMainLine : Program → (name : List ℕ) → Limits → List Entry → (line : List ℕ) → Type 0
IsMainLine p name limits journal line = IsNoMain p name line ⊎ IsWrong p name limits journal line

-- ---- by the text of the journal

pub record IsWholeText (p : Program) (name : List ℕ) (limits : Limits) (text line : List ℕ) : Type 0 where
  pub journal : List Entry
  pub is : IsTextOf text journal
  pub whole : IsWholeOf p name limits journal line

pub record IsFaultOf (p : Program) (name : List ℕ) (limits : Limits) (text line : List ℕ) : Type 0 where
  pub journal : List Entry
  pub is : IsTextOf text journal
  pub fault : IsMainLine p name limits journal line

abbrev pub IsTextLine : Program → (name : List ℕ) → Limits → (text line : List ℕ) → Type 0
IsTextLine p name limits text line = IsTextReport text line ⊎ IsFaultOf p name limits text line
