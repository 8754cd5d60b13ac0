-- Whole runs of a program, made by a runner.
use Rattle.std.specs.Prelude.{◌≡◌, ◌≤◌, ◌⊎◌, ℕ, List, [], length}
use Rattle.kilim_program.specs.declared.names.ClassId.{ClassId}
use Rattle.kilim_program.specs.Program.{Program}
use Rattle.kilim_run_state.specs.declared.run.Limits.{Limits}
use Rattle.kilim_run_journal.specs.declared.entry.Entry.{Entry}
use Rattle.kilim_run_journal.specs.Readable.{IsReadable, JournalFits}
use Rattle.kilim_run_model.specs.State.{Setting}
use Rattle.kilim_run_model.specs.Moving.{Moving, MovedAtRest, MovedReplay}
use Rattle.kilim_run_model.specs.Runs.{Whole}
use Rattle.kilim_run_follow.specs.Follow.{CanCome, DiffersAt}
use Rattle.kilim_run_workers.specs.Given.{BeginsWith, EndsInOne}
use Rattle.kilim_run_follow.specs.declared.resuming.Resumed.{Resumed}
use Rattle.kilim_run_follow.specs.declared.resuming.Resumed.TheVariants as resumed

-- what a run is of
abbrev pub setting_of : Program → ClassId → Limits → Setting
setting_of program main limits = record { program = program; main = main; limits = limits }

-- the journal of a whole run, which can be read back
pub record IsJournalOf (set : Setting) (journal : List Entry) : Type 0 where
  pub whole : Whole set journal
  pub readable : IsReadable journal
  pub fits : JournalFits journal

-- The journal of a run that was stopped: its entries lead to a state, and there are at least so many, or that state is at rest. Before the last
-- entries, which are of one task alone, there are fewer than so many.
pub record IsStopped (set : Setting) (few : ℕ) (journal : List Entry) : Type 0 where
  pub state : Moving
  pub replay : MovedReplay set journal state
  pub enough : (few ≤ length journal) ⊎ ((waits : List Entry) × MovedAtRest set state waits)
  pub last : (journal ≡ []) ⊎ EndsInOne few journal

-- and it can be read back
pub record IsCourseOf (set : Setting) (few : ℕ) (journal : List Entry) : Type 0 where
  pub stopped : IsStopped set few journal
  pub readable : IsReadable journal
  pub fits : JournalFits journal

-- the journal of a whole run that begins with the given one, which leads to a state, or the line of its first entry that can't come
abbrev pub IsResumed : Setting → List Entry → Resumed → Type 0
IsResumed set given (resumed.Journal es) = IsJournalOf set es.items × (BeginsWith given es.items × CanCome set given)
IsResumed set given (resumed.Differs n) = DiffersAt set given n

-- each number of its journal is in the range of its type
abbrev pub ResumedFits : Resumed → Type 0
ResumedFits (resumed.Journal es) = JournalFits es.items
ResumedFits (resumed.Differs n) = Unit {0}
