-- A worker with a pass of each of a run's turns: the mailbox turns by their numbers, the register's, and the ready one.
use Rattle.std.specs.Prelude.{◌≡◌, ℕ, ◌+◌, ◌<◌, ◌≤◌, false, List, [], ◌∷◌, ◌++◌, Option, Some, None, length, map, slice_index_or}
use Rattle.kilim_run_state.specs.declared.run.Limits.{Limits}
use Rattle.kilim_run_model.specs.State.{Setting}
use Rattle.kilim_run_model.specs.Lone.{Lone}
use Rattle.kilim_run_model.specs.Course.{Course}
use Rattle.kilim_run_model.specs.declared.deed.Beginning.{Beginning}
use Rattle.kilim_run_board.specs.fibers.Fibers.{StandsFor, NewCourse}
use Rattle.kilim_run_board.specs.fibers.Wishes.{IsMessage, ToPut, ToPutWait, ToBound, ToTake, ToProbe, ToStart, ToPrint}
use Rattle.kilim_run_board.specs.declared.fibers.Wants.{Wants}
use Rattle.kilim_run_board.specs.declared.fibers.Wants.TheVariants as wants
use Rattle.kilim_run_board.specs.declared.fibers.Answer.TheVariants as answer
use Rattle.kilim_run_turn.specs.declared.lending.Turn.{Turn}
use Rattle.kilim_run_turn.specs.declared.pass.Pass.{Pass}
use Rattle.kilim_run_turn.specs.Turns.{seats_of, shows}
use Rattle.kilim_run_workers.specs.Runs.{RunsOn}
use Rattle.kilim_mail_stamps.specs.Merging.{weigh}
use Rattle.kilim_mail_ledger.specs.declared.items.Item.{Item}
use Rattle.kilim_mail_ledger.specs.Ledger.{items_of}
use Rattle.kilim_mail_notes.specs.Histories.{trace_of}
use Rattle.kilim_mail_notes.specs.Notes.{IsNamed}
use Rattle.kilim_mail_notes.specs.Sums.{Even}
use Rattle.kilim_mail_crew.specs.declared.crew.Worker.{Worker}
use Rattle.kilim_mail_crew.specs.Crew.{Table, AreOf}
use Rattle.kilim_mail_register.specs.Register.{register_cells}
use Rattle.kilim_mail_register.specs.declared.register.Started.{Started}
use Rattle.kilim_mail_register.specs.declared.register.Started.TheVariants as started
use Rattle.kilim_mail_ready.specs.declared.body.Body.{Body}
use Rattle.kilim_mail_ready.specs.declared.ready.Lent.{Lent}
use Rattle.kilim_mail_ready.specs.declared.ready.Lent.TheVariants as lent
use Rattle.kilim_mail_ready.specs.Ready.{ready_cells, BodyStands}
use Rattle.kilim_mail_group.specs.Group.{group_cells, BodyAsks}
use Rattle.kilim_mail_worker.specs.declared.own.Own.{Own}
use Rattle.kilim_mail_worker.specs.declared.turns.Turns.{Turns}
use Rattle.kilim_mail_worker.specs.Own.{IsOver, OwnStands, own_items, traces_items, buried, BodyEnds}

abbrev pub table_of : {B : Type 0} → (B → List (List ℕ)) → Turn B → Table
table_of cells turn = record { table = turn.table.shared.table_id; seats = seats_of cells turn }

abbrev pub tables_of : {F C K : Type 0} → Turns F C K → List Table
tables_of t = map (λ g. table_of group_cells g) t.groups.items ++ table_of register_cells t.register ∷ table_of ready_cells t.ready ∷ []

-- there are 1 to 64 mailbox turns, and the worker has a pass of each turn, all of one seat, none of which is inside
pub record HasPasses {F C K : Type 0} (t : Turns F C K) (w : Worker Own) : Type 0 where
  pub some : 0 < length t.groups.items
  pub few : length t.groups.items ≤ 64
  pub seat : ℕ
  pub passes : AreOf seat (tables_of t) w.passes.items

-- so it is later, with the same seat
pub record KeepsPasses {F C K : Type 0} (t : Turns F C K) (w w' : Worker Own) : Type 0 where
  pub keep : (seat : ℕ) → AreOf seat (tables_of t) w.passes.items → AreOf seat (tables_of t) w'.passes.items

-- The worker's passes of mailbox turns tell which turn it is. It has this in hand, by what all of its passes show.
pub record Works {F C K : Type 0} (Of : Setting → Type 0) (t : Turns F C K) (w : Worker Own) (hand : List Item) : Type 0 where
  pub named : (i : ℕ) (d : Pass) → i < length t.groups.items → IsNamed i (length t.groups.items) (shows (slice_index_or w.passes.items i d))
  pub even : Even (map shows w.passes.items) (hand ++ traces_items (buried w.own)) (own_items w.own)
  pub own : OwnStands Of w.own

-- it gives this away of what it has in hand
pub record GivesAway {F C K : Type 0} (Of : Setting → Type 0) (t : Turns F C K) (w w' : Worker Own) (given : List Item) : Type 0 where
  pub give : (hand rest : List Item) → ((h : Item → ℕ) → weigh h hand ≡ weigh h given + weigh h rest) → Works Of t w hand → Works Of t w' rest

-- the history of a task, if there is one
abbrev pub maybe_items : {F : Type 0} → Option (Body F) → List Item
maybe_items None = []
maybe_items (Some b) = items_of (trace_of b.history)

abbrev pub lent_items : {F : Type 0} → Lent F → List Item
lent_items (lent.Task b) = items_of (trace_of b.history)
lent_items l = []

-- ---- a task in hand

-- its fiber wants this, and nothing was done yet
abbrev pub BodyWants : {F : Type 0} → (F → ℕ) → (F → Course) → (Setting → F → Lone → Type 0) → (Setting → F → Lone → Type 0) → Setting → Body F → Wants F → Type 0
BodyWants task course holds asked set b (wants.Put box tree shape) = BodyAsks task course asked set b (ToPut box shape) × IsMessage set.program tree shape
BodyWants task course holds asked set b (wants.PutWait box tree shape) = BodyAsks task course asked set b (ToPutWait box shape) × IsMessage set.program tree shape
BodyWants task course holds asked set b (wants.Bound box most) = BodyAsks task course asked set b (ToBound box most)
BodyWants task course holds asked set b (wants.Take box) = BodyAsks task course asked set b (ToTake box)
BodyWants task course holds asked set b (wants.Probe box) = BodyAsks task course asked set b (ToProbe box)
BodyWants task course holds asked set b (wants.Start new shape) = BodyAsks task course asked set b (ToStart shape) × NewCourse course new shape × StandsFor task course holds set new
BodyWants task course holds asked set b (wants.Print shape) = BodyAsks task course asked set b (ToPrint shape)
BodyWants task course holds asked set b (wants.Rest waits) = BodyStands task course holds asked set b
BodyWants task course holds asked set b (wants.End why) = BodyEnds set b why

-- what a start came to, for the task in hand: it has the answer, or it has ended
abbrev pub StartedStands : {F : Type 0} → (F → ℕ) → (F → Course) → (Setting → F → Lone → Type 0) → (Setting → F → Lone → Type 0) → Setting → Body F → Started → Type 0
StartedStands task course holds asked set b (started.Task number stamp history) = BodyStands task course holds asked set (record { fiber = b.fiber; clock = stamp; pending = Some (answer.Started number); history = b.history })
StartedStands task course holds asked set b (started.OutOfTasks stamp) = IsOver set (trace_of b.history)

-- and for the task that was started, which begins so
abbrev pub IsBirth : Beginning → Started → Type 0
IsBirth beginning (started.Task number stamp history) = trace_of history ≡ record { task = number; stamp = stamp; beginning = beginning; past = [] }
IsBirth beginning (started.OutOfTasks stamp) = Unit {0}

-- ---- a worker

-- there is a setting of the run, which the code serves, and the worker has passes, and nothing in hand
pub record MayWork {F C K D : Type 0} (serves : Setting → D → Type 0) (Of : Setting → Type 0) (code : D) (limits : Limits) (t : Turns F C K) (w : Worker Own) : Type 0 where
  pub some : (set : Setting) × Of set
  pub run : RunsOn serves Of code limits
  pub has : HasPasses t w
  pub works : Works Of t w []

-- the worker is through: it has its passes, and nothing in hand where it didn't fail
pub record HasWorked {F C K : Type 0} (Of : Setting → Type 0) (t : Turns F C K) (w w' : Worker Own) : Type 0 where
  pub passes : KeepsPasses t w w'
  pub works : w'.own.failed ≡ false → Works Of t w' []
