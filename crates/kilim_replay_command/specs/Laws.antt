-- A law: no text is that of the journal of a whole run and reported.
use Rattle.std.specs.Prelude.{ℕ, List}
use Rattle.kilim_run_state.specs.declared.run.Limits.{Limits}
use Rattle.kilim_replay_command.specs.Replay.{IsReplayReport, IsWholeJournal}

abbrev pub NeverWholeAndReported : Type 0
NeverWholeAndReported = (names : List (List ℕ)) (name : List ℕ) (limits : Limits) (files : List (List ℕ)) (text report : List ℕ) → IsWholeJournal name limits files text → IsReplayReport names name limits files text report → ⊥
