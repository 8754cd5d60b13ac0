-- What it means for all runs of a program that it breaks no rule of isolation.
use Rattle.std.specs.Prelude.{◌≡◌, ◌≤◌, ℕ, List, true, length}
use Rattle.kilim_program.specs.Keeps.{Keeps}
use Rattle.kilim_program.specs.Program.{Program}
use Rattle.kilim_run_journal.specs.declared.entry.Entry.{Entry}
use Rattle.kilim_run_model.specs.one_heap.Laws.{SameReplays}
use Rattle.kilim_isolation_laws.specs.reached_objects.Laws.{AreLive}
use Rattle.kilim_run_model.specs.Kept.{Kept}
use Rattle.kilim_run_model.specs.Reach.{Liveness, PlaysIsolated}
use Rattle.kilim_run_model.specs.Runs.{Replays, played}
use Rattle.kilim_run_model.specs.State.{Setting, State, first_state, is_fit}
use Rattle.kilim_stages.specs.Accepted.{IsAcceptedOf}

-- a run of the program, with a fit main class, whatever its limits
pub record IsRunOf (p : Program) (set : Setting) : Type 0 where
  pub program : set.program ≡ p
  pub main : is_fit set ≡ true

pub record RunsApart (p : Program) : Type 0 where
  -- whatever a thread reaches is in its own heap, and what it gives away is a whole tree
  pub kept : (set : Setting) → IsRunOf p set → (live : Liveness) → AreLive p live → Kept live set
  -- in no interleaving is an object reached by two threads, by a thread and a place in a queue, or by two places
  pub isolated : (set : Setting) → IsRunOf p set → (live : Liveness) → AreLive p live → PlaysIsolated live set
  -- the journal of any interleaving is replayed, to a state with that journal
  pub replayed : (set : Setting) → IsRunOf p set → (schedule : List ℕ) →
      (last : State) × Replays set (first_state set) (played set schedule).journal last × (last.journal ≡ (played set schedule).journal)
  -- entries are replayed over one heap exactly where they are over many, to rest exactly where they are there, with the same waits
  pub same : (set : Setting) → IsRunOf p set → (entries : List Entry) → SameReplays set entries

-- so it is of the accepted program of some class files
abbrev pub AcceptedRunsApart : Type 0
AcceptedRunsApart = (files : List (List ℕ)) (p : Program) → length files ≤ 1000 → Keeps p → IsAcceptedOf files p → RunsApart p
