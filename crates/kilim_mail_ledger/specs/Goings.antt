-- A task's history goes on by what its thread asks.
use Rattle.std.specs.Prelude.{◌≡◌, ℕ, ◌<◌, true, List, [], ◌∷◌, ◌++◌, Option, Some}
use Rattle.kilim_program.specs.declared.names.BoxName.{BoxName}
use Rattle.kilim_run_state.specs.declared.cause.EndCause.TheVariants as cause
use Rattle.kilim_run_state.specs.declared.value.Token.{Token}
use Rattle.kilim_run_journal.specs.declared.entry.Act.TheVariants.{End}
use Rattle.kilim_run_model.specs.State.{Setting}
use Rattle.kilim_run_model.specs.Lone.{Lone}
use Rattle.kilim_run_model.specs.Course.{Course, plain, IsLone, has_ended, stands_at}
use Rattle.kilim_run_model.specs.declared.deed.Deed.{Deed}
use Rattle.kilim_run_model.specs.declared.waits.Waits.{Waits}
use Rattle.kilim_run_model.specs.declared.waits.Waits.TheVariants as wait
use Rattle.kilim_run_board.specs.fibers.Wishes.{Wish, ToPut, ToPutWait, ToTake, ToStart, ToEnd, Wishes}
use Rattle.kilim_run_board.specs.fibers.Fibers.{Fits}
use Rattle.kilim_run_board.specs.declared.fibers.Answer.{Answer}
use Rattle.kilim_mail_ledger.specs.declared.items.Dated.{Dated}
use Rattle.kilim_mail_ledger.specs.Ledger.{Trace, trace_course, IsTrace}

-- one thing more was done
abbrev pub longer : Trace → Dated → Trace
longer trace d = record trace { past = trace.past ++ d ∷ [] }

-- the clock of a task: the last stamp, or that of its start
abbrev pub latest : ℕ → List Dated → ℕ
latest n [] = n
latest n (x ∷ xs) = latest x.stamp xs

-- An answer that makes a deed, with a stamp above the task's clock: the history with it is that of a thread.
abbrev pub HistoriesGoOn : Type 0
HistoriesGoOn = (set : Setting) (trace : Trace) (wish : Wish) (a : Answer) (d : Dated) → IsTrace set trace → Wishes set trace.task (trace_course trace) wish → Fits set.program wish a (Some d.deed) → latest trace.stamp trace.past < d.stamp → IsTrace set (longer trace d)

-- the end of a task: by itself, for want of tasks at a start, or at a full mailbox, which is told
abbrev pub EndsBy : Wish → Option BoxName → Deed → Type 0
EndsBy (ToEnd why) full d = d ≡ plain (End why)
EndsBy (ToStart shape) full d = d ≡ plain (End cause.Tasks)
EndsBy (ToPut box shape) full d = (d ≡ plain (End cause.Full)) × (full ≡ Some box)
EndsBy wish full d = ⊥

abbrev pub HistoriesEnd : Type 0
HistoriesEnd = (set : Setting) (trace : Trace) (wish : Wish) (d : Dated) → IsTrace set trace → Wishes set trace.task (trace_course trace) wish → EndsBy wish d.full d.deed → latest trace.stamp trace.past < d.stamp → IsTrace set (longer trace d) × (has_ended (trace_course (longer trace d)) ≡ true)

-- what is asked where there may be to wait for this
abbrev pub AsksFor : Wish → Waits → Type 0
AsksFor (ToTake box) w = w ≡ wait.Take box
AsksFor (ToPutWait box shape) w = w ≡ wait.Put box
AsksFor wish w = ⊥

-- A thread that asks for a message, or for room, stands where it may have to wait for it.
abbrev pub AskersStand : Type 0
AskersStand = (set : Setting) (t : ℕ) (c : Course) (wish : Wish) (w : Waits) → Wishes set t c wish → AsksFor wish w → (l : Lone) → IsLone set t c l → stands_at set t l ≡ Some w
