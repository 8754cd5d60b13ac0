-- The verdict where all entries are replayed, and how a replay begins.
use Rattle.std.specs.Prelude.{◌≡◌, ◌+◌, ℕ, List, [], ◌∷◌, Some}
use Rattle.kilim_program.specs.Program.{Program}
use Rattle.kilim_program.specs.declared.names.ClassId.{ClassId}
use Rattle.kilim_run_journal.specs.declared.entry.Entry.{Entry}
use Rattle.kilim_run_model.specs.State.{Setting, State}
use Rattle.kilim_run_model.specs.Runs.{AtRest}
use Rattle.kilim_replay_laws.specs.Verdicts.{DifferAt, all_settled, first_going}
use Rattle.kilim_replay_laws.specs.declared.verdict.Verdict.{Verdict}
use Rattle.kilim_replay_laws.specs.declared.verdict.Verdict.TheVariants as verdict
use Rattle.kilim_replay_thread.specs.Begins.{Boots}
use Rattle.kilim_replay_thread.specs.declared.task.Live.{Live as ALive}
use Rattle.kilim_replay.specs.declared.machine.Machine.{Machine}
use Rattle.kilim_replay.specs.declared.machine.Task.TheVariants as a_task

-- task 0 alone, and no messages
pub record BeginsAs (p : Program) (main : ClassId) (m : Machine) : Type 0 where
  pub live : ALive
  pub boots : Boots p main m.world live
  pub tasks : m.tasks.items ≡ a_task.Live live ∷ []
  pub mailboxes : m.mailboxes.by_name.entries ≡ []

pub record ClosesBut (set : Setting) (s : State) (acts : ℕ) (waits : List Entry) (n : ℕ) : Type 0 where
  pub own : List Entry
  pub at_rest : AtRest set s own
  pub common : ℕ
  pub differ : DifferAt waits own common
  pub number : n ≡ acts + common + 1

-- of the state to which so many entries led, with these lines behind them
abbrev pub IsClosed : Setting → State → ℕ → List Entry → Verdict → Type 0
IsClosed set s acts waits verdict.Whole = AtRest set s waits
IsClosed set s acts waits (verdict.Goes n t) = (n ≡ acts + 1) × (first_going set (all_settled set s) 0 (all_settled set s).threads ≡ Some t)
IsClosed set s acts waits (verdict.Rest n) = ClosesBut set s acts waits n
IsClosed set s acts waits v = ⊥
