-- What is left of a run once all turns are closed and no task is ready: each task waits at a mailbox, or has ended.
use Rattle.std.specs.Prelude.{ℕ, List, [], ◌∷◌, ◌++◌, map}
use Rattle.std.specs.List.{AllByRecursion}
use Rattle.kilim_run_model.specs.State.{Setting}
use Rattle.kilim_run_model.specs.declared.deed.Beginning.TheVariants.{Boot}
use Rattle.kilim_mail_stamps.specs.declared.stamped.Stamped.{Stamped}
use Rattle.kilim_mail_ledger.specs.declared.items.Item.TheVariants.{Born}
use Rattle.kilim_mail_ledger.specs.Ledger.{Trace, IsTrace, Balanced}
use Rattle.kilim_mail_notes.specs.declared.notes.Ledger.{Ledger}
use Rattle.kilim_mail_notes.specs.Sums.{Kept, Left, Columns, AllBalance, AllEven}
use Rattle.kilim_mail_register.specs.declared.register.Starts.{Starts}
use Rattle.kilim_mail_register.specs.Register.{told_by, IsRegister}
use Rattle.kilim_mail_parts.specs.Parts.{AreTurns, IsOwn, all_parts}
use Rattle.kilim_mail_worker.specs.Own.{traces_items}

-- what lies under a mailbox turn: what each seat did there, the histories of the tasks that wait, and the entries
pub record ClosedTurn : Type 0 where
  pub ledger : Ledger
  pub waiting : List Trace
  pub log : List Stamped

-- what a worker has: the cells that its passes showed, the histories of the tasks that ended in its hands, and its own entries
pub record ClosedWorker : Type 0 where
  pub cells : List (List ℕ)
  pub over : List Trace
  pub log : List Stamped

abbrev pub turn_log : ClosedTurn → List Stamped
turn_log t = t.log

abbrev pub worker_log : ClosedWorker → List Stamped
worker_log w = w.log

abbrev pub turn_kept : ClosedTurn → Kept
turn_kept t = record { ledger = t.ledger; held = traces_items t.waiting; made = told_by t.log t.log }

-- all turns, in the order of a worker's passes: those of mailboxes, the register's, and the ready one, where no task is left
abbrev pub all_kept : List ClosedTurn → Starts → Ledger → List Kept
all_kept turns register ready =
    map turn_kept turns ++ record { ledger = register.ledger; held = []; made = told_by [] register.log.items } ∷ record { ledger = ready; held = []; made = Born 0 0 Boot ∷ [] } ∷ []

abbrev pub worker_left : ClosedWorker → Left
worker_left w = record { cells = w.cells; hand = traces_items w.over; own = told_by [] w.log }

abbrev pub cells_left : Left → List (List ℕ)
cells_left w = w.cells

abbrev pub waiting_traces : List ClosedTurn → List Trace
waiting_traces [] = []
waiting_traces (t ∷ ts) = t.waiting ++ waiting_traces ts

abbrev pub over_traces : List ClosedWorker → List Trace
over_traces [] = []
over_traces (w ∷ ws) = w.over ++ over_traces ws

-- the histories of all tasks
abbrev pub all_traces : List ClosedTurn → List ClosedWorker → List Trace
all_traces turns workers = waiting_traces turns ++ over_traces workers

-- What is known of each part alone, once the values are out: what lies there balances, the workers are even, and the cells are what their passes showed.
pub record AreClosed (turns : List ClosedTurn) (register : Starts) (ready : Ledger) (workers : List ClosedWorker) : Type 0 where
  pub balance : AllBalance (all_kept turns register ready)
  pub even : AllEven (map worker_left workers)
  pub columns : Columns (all_kept turns register ready) (map cells_left (map worker_left workers))
  pub register-is : IsRegister register.log.items
  pub turns-are : (many : ℕ) × AreTurns many 0 (map turn_log turns)
  pub owns : AllByRecursion IsOwn (map worker_log workers)

-- Then histories and parts balance, in each setting in which each history is that of a thread.
abbrev pub ClosedBalance : Type 0
ClosedBalance = (set : Setting) (turns : List ClosedTurn) (register : Starts) (ready : Ledger) (workers : List ClosedWorker) → AreClosed turns register ready workers →
    AllByRecursion (IsTrace set) (all_traces turns workers) → Balanced set (all_parts register.log.items (map turn_log turns) (map worker_log workers)) (all_traces turns workers)
