-- The register of starts, against the entries that were noted in it.
use Rattle.std.specs.Prelude.{◌≡◌, ℕ, ◌<◌, ◌≤◌, ◌+◌, true, List, [], ◌∷◌, ◌++◌, Option, None, filter}
use Rattle.std.specs.List.{AllByRecursion}
use Rattle.kilim_program.specs.declared.names.BoxName.{BoxName}
use Rattle.kilim_run_state.specs.declared.cause.EndCause.TheVariants as cause
use Rattle.kilim_run_state.specs.declared.value.Token.{Token}
use Rattle.kilim_run_journal.specs.declared.entry.Act.TheVariants.{Start, End}
use Rattle.kilim_run_model.specs.Turn.{task_limit}
use Rattle.kilim_run_model.specs.Course.{plain}
use Rattle.kilim_run_model.specs.declared.deed.Beginning.TheVariants.{Begun}
use Rattle.kilim_mail_stamps.specs.declared.stamped.Stamped.{Stamped}
use Rattle.kilim_mail_stamps.specs.Stamps.{is_on, is_registered, Rises, Registers, RegisterFrom}
use Rattle.kilim_mail_stamps.specs.Merging.{weigh}
use Rattle.kilim_mail_ledger.specs.declared.items.Item.{Item}
use Rattle.kilim_mail_ledger.specs.Ledger.{Trace, items_of, entry_items}
use Rattle.kilim_mail_ledger.specs.Mailboxes.{UpTo}
use Rattle.kilim_mail_ledger.specs.Goings.{longer}
use Rattle.kilim_mail_notes.specs.Histories.{trace_of}
use Rattle.kilim_mail_notes.specs.Notes.{ledger_cells, Balances}
use Rattle.kilim_mail_register.specs.declared.register.Starts.{Starts}
use Rattle.kilim_mail_register.specs.declared.register.Started.{Started}
use Rattle.kilim_mail_register.specs.declared.register.Started.TheVariants as started

abbrev pub register_cells : Starts → List (List ℕ)
register_cells r = ledger_cells r.ledger

-- with so many tasks before and after these entries
abbrev pub RegistersTo : ℕ → List Stamped → ℕ → Type 0
RegistersTo n [] last = n ≡ last
RegistersTo n (s ∷ ss) last = Registers n s.entry.act (λ n'. RegistersTo n' ss last)

-- what the entries of a list tell of the tasks' histories
abbrev pub told_by : List Stamped → List Stamped → List Item
told_by all [] = []
told_by all (s ∷ ss) = entry_items all s ++ told_by all ss

-- Its entries are starts, and ends for want of tasks, whose stamps rise up to its clock; they lead to its count of tasks; and nothing lies here.
pub record RegisterStands (r : Starts) : Type 0 where
  pub only : AllByRecursion (λ (s : Stamped). is_registered s ≡ true) r.log.items
  pub rises : Rises r.log.items
  pub upto : UpTo r.clock r.log.items
  pub run : RegistersTo 1 r.log.items r.tasks
  pub few : r.tasks ≤ task_limit
  pub balances : Balances r.ledger [] (told_by [] r.log.items)

-- the history with which a task begins that was started
abbrev pub born_of : Started → List Item
born_of (started.Task number stamp history) = items_of (trace_of history)
born_of (started.OutOfTasks stamp) = []

-- The task whose history was `old`, with that clock, has started a task, or has ended.
abbrev pub IsStarted : Trace → ℕ → List Token → Trace → Started → Type 0
IsStarted old clock shape new (started.Task number stamp history) =
    (clock < stamp) × (new ≡ longer old (record { stamp = stamp; full = None; deed = plain (Start number shape) }))
    × (trace_of history ≡ record { task = number; stamp = stamp; beginning = Begun shape; past = [] })
IsStarted old clock shape new (started.OutOfTasks stamp) = (clock < stamp) × (new ≡ longer old (record { stamp = stamp; full = None; deed = plain (End cause.Tasks) }))

-- what is asked of the register's part of a run
pub record IsRegister (log : List Stamped) : Type 0 where
  pub all : filter is_registered log ≡ log
  pub rises : Rises log
  pub run : RegisterFrom 1 log
  pub no_box : (box : BoxName) → filter (is_on box) log ≡ []
  pub told : (all : List Stamped) (h : Item → ℕ) → weigh h (told_by [] log) ≡ weigh (λ (s : Stamped). weigh h (entry_items all s)) log

abbrev pub RegistersAreRuns : Type 0
RegistersAreRuns = (r : Starts) → RegisterStands r → IsRegister r.log.items
