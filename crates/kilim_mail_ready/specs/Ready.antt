-- Tasks that are ready, against what came and went.
use Rattle.std.specs.Prelude.{◌≡◌, ℕ, ◌<◌, List, [], ◌∷◌, ◌++◌, Option, Some, None}
use Rattle.std.specs.List.{AllByRecursion}
use Rattle.kilim_run_model.specs.State.{Setting}
use Rattle.kilim_run_model.specs.Lone.{Lone}
use Rattle.kilim_run_model.specs.Course.{Course}
use Rattle.kilim_run_model.specs.declared.deed.Deed.{Deed}
use Rattle.kilim_run_model.specs.declared.deed.Beginning.TheVariants.{Boot}
use Rattle.kilim_run_model.specs.Moving.{further}
use Rattle.kilim_run_turn.specs.Views.{cell_at}
use Rattle.kilim_run_turn.specs.Turns.{KeepsOthers}
use Rattle.kilim_run_board.specs.fibers.Wishes.{Wish}
use Rattle.kilim_run_board.specs.fibers.Fibers.{StandsFor, Asks, Fits}
use Rattle.kilim_run_board.specs.declared.fibers.Answer.{Answer}
use Rattle.kilim_mail_ledger.specs.declared.items.Item.{Item}
use Rattle.kilim_mail_ledger.specs.declared.items.Item.TheVariants.{Born}
use Rattle.kilim_mail_ledger.specs.Ledger.{items_of, trace_course, IsTrace}
use Rattle.kilim_mail_ledger.specs.Goings.{latest}
use Rattle.kilim_mail_notes.specs.Histories.{trace_of}
use Rattle.kilim_mail_notes.specs.Notes.{ledger_cells, Accounts, Balances}
use Rattle.kilim_mail_ready.specs.declared.body.Body.{Body}
use Rattle.kilim_mail_ready.specs.declared.ready.Queue.{Queue}
use Rattle.kilim_mail_ready.specs.declared.ready.Lent.{Lent}
use Rattle.kilim_mail_ready.specs.declared.ready.Lent.TheVariants as lent

abbrev pub ready_cells : {F : Type 0} → Queue F → List (List ℕ)
ready_cells q = ledger_cells q.ledger

-- the histories of the tasks that lie there
abbrev pub held : {F : Type 0} → List (Body F) → List Item
held [] = []
held (b ∷ bs) = items_of (trace_of b.history) ++ held bs

-- The fiber stands for the history; or it asked for what it got meanwhile, and the answer makes the last deed of the history.
abbrev pub FiberStands : {F : Type 0} → (F → ℕ) → (F → Course) → (Setting → F → Lone → Type 0) → (Setting → F → Lone → Type 0) → Setting → F → Course → Option Answer → Type 0
FiberStands task course holds asked set f c None = (course f ≡ c) × StandsFor task course holds set f
FiberStands task course holds asked set f c (Some a) = (wish : Wish) × (d : Deed) × (c ≡ further (course f) d) × Asks task course asked set f wish × Fits set.program wish a (Some d)

-- a task in hand, or ready
pub record BodyStands {F : Type 0} (task : F → ℕ) (course : F → Course) (holds asked : Setting → F → Lone → Type 0) (set : Setting) (b : Body F) : Type 0 where
  pub trace : IsTrace set (trace_of b.history)
  pub task-is : task b.fiber ≡ b.history.task
  pub clock : b.clock ≡ latest (trace_of b.history).stamp (trace_of b.history).past
  pub fiber : FiberStands task course holds asked set b.fiber (trace_course (trace_of b.history)) b.pending

-- What lies there is what came and didn't go, and at first task 0, which nobody brought; and each task stands for its history.
pub record QueueStands {F : Type 0} (task : F → ℕ) (course : F → Course) (holds asked : Setting → F → Lone → Type 0) (Of : Setting → Type 0) (q : Queue F) : Type 0 where
  pub balances : Balances q.ledger (held q.bodies.items) (Born 0 0 Boot ∷ [])
  pub each : (set : Setting) → Of set → AllByRecursion (BodyStands task course holds asked set) q.bodies.items

-- ---- what the calls do

-- the first task goes, by that seat
pub record TakesFirst {F : Type 0} (seat : ℕ) (q q' : Queue F) (b : Body F) : Type 0 where
  pub bodies : q.bodies.items ≡ b ∷ q'.bodies.items
  pub others : KeepsOthers seat (ready_cells q) (ready_cells q')
  pub accounts : Accounts (cell_at (ready_cells q) seat) (cell_at (ready_cells q') seat) [] (items_of (trace_of b.history))
  pub balances : (made : List Item) → Balances q.ledger (held q.bodies.items) made → Balances q'.ledger (held q'.bodies.items) made

-- a task comes, by that seat, and stands behind the others
pub record AddsLast {F : Type 0} (seat : ℕ) (q q' : Queue F) (b : Body F) : Type 0 where
  pub bodies : q'.bodies.items ≡ q.bodies.items ++ b ∷ []
  pub others : KeepsOthers seat (ready_cells q) (ready_cells q')
  pub accounts : Accounts (cell_at (ready_cells q) seat) (cell_at (ready_cells q') seat) (items_of (trace_of b.history)) []
  pub balances : (made : List Item) → Balances q.ledger (held q.bodies.items) made → Balances q'.ledger (held q'.bodies.items) made

-- what a seat has in hand then
abbrev pub LentAs : {F : Type 0} → List ℕ → List ℕ → Lent F → Type 0
LentAs old new (lent.Task b) = Accounts old new [] (items_of (trace_of b.history))
LentAs old new l = new ≡ old

abbrev pub LentStands : {F : Type 0} → (F → ℕ) → (F → Course) → (Setting → F → Lone → Type 0) → (Setting → F → Lone → Type 0) → Setting → Lent F → Type 0
LentStands task course holds asked set (lent.Task b) = BodyStands task course holds asked set b
LentStands task course holds asked set l = Unit {0}
