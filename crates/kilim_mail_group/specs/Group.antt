-- What lies under a mailbox turn: the mailboxes, their entries, and the tasks that wait there.
use Rattle.std.specs.Prelude.{◌≡◌, ℕ, true, false, List, [], ◌∷◌, ◌++◌, Option, Some, None, length}
use Rattle.std.specs.List.{AllByRecursion}
use Rattle.kilim_program.specs.declared.names.BoxName.{BoxName}
use Rattle.kilim_run_state.specs.declared.value.Object.{Object}
use Rattle.kilim_run_state.specs.declared.value.Token.{Token}
use Rattle.kilim_run_model.specs.State.{Setting, is_full, same_box}
use Rattle.kilim_run_model.specs.Lone.{Lone}
use Rattle.kilim_run_model.specs.Course.{Course, has_ended}
use Rattle.kilim_run_model.specs.declared.waits.Waits.{Waits}
use Rattle.kilim_run_model.specs.declared.waits.Waits.TheVariants as wait
use Rattle.kilim_run_board.specs.Board.{box_of}
use Rattle.kilim_run_board.specs.declared.waiting.parked.Waiter.{Waiter}
use Rattle.kilim_run_board.specs.fibers.Fibers.{Asks}
use Rattle.kilim_run_board.specs.fibers.Wishes.{IsMessage, Wish, ToPut, ToPutWait, ToBound, ToTake, ToProbe}
use Rattle.kilim_mail_stamps.specs.declared.stamped.Stamped.{Stamped}
use Rattle.kilim_mail_stamps.specs.Stamps.{is_on, is_registered}
use Rattle.kilim_mail_ledger.specs.declared.items.Item.{Item}
use Rattle.kilim_mail_ledger.specs.Ledger.{items_of, trace_course, IsTrace}
use Rattle.kilim_mail_ledger.specs.Closing.{HasToWait}
use Rattle.kilim_mail_ledger.specs.Goings.{latest}
use Rattle.kilim_mail_ledger.specs.Mailboxes.{Box, turn_of, AllStand}
use Rattle.kilim_mail_notes.specs.Histories.{trace_of}
use Rattle.kilim_mail_notes.specs.Notes.{ledger_cells, AllNamed, Balances}
use Rattle.kilim_mail_register.specs.Register.{told_by}
use Rattle.kilim_mail_ready.specs.declared.body.Body.{Body}
use Rattle.kilim_mail_ready.specs.Ready.{BodyStands}
use Rattle.kilim_mail_posts.specs.Posts.{box_at, AllMessages}
use Rattle.kilim_mail_group.specs.declared.boxes.Ask.{Ask}
use Rattle.kilim_mail_group.specs.declared.boxes.Ask.TheVariants as ask
use Rattle.kilim_mail_group.specs.declared.boxes.Boxes.{Boxes}
use Rattle.kilim_mail_group.specs.declared.boxes.Came.{Came}
use Rattle.kilim_mail_group.specs.declared.boxes.Came.TheVariants as came
use Rattle.kilim_mail_group.specs.declared.boxes.Sleeper.{Sleeper}

abbrev pub group_cells : {F : Type 0} → Boxes F → List (List ℕ)
group_cells b = ledger_cells b.ledger

-- the histories of the tasks that wait
abbrev pub held : {F : Type 0} → List (Waiter (Sleeper F)) → List Item
held [] = []
held (w ∷ ws) = items_of (trace_of w.fiber.body.history) ++ held ws

-- ---- a task that asks for something, unanswered, with its frames: its fiber's thread is that of its history

pub record BodyAsks {F : Type 0} (task : F → ℕ) (course : F → Course) (asked : Setting → F → Lone → Type 0) (set : Setting) (b : Body F) (wish : Wish) : Type 0 where
  pub trace : IsTrace set (trace_of b.history)
  pub task-is : task b.fiber ≡ b.history.task
  pub clock : b.clock ≡ latest (trace_of b.history).stamp (trace_of b.history).past
  pub same : course b.fiber ≡ trace_course (trace_of b.history)
  pub asks : Asks task course asked set b.fiber wish

-- one that waits to put has its message with it
abbrev pub PutterAsks : {F : Type 0} → (F → ℕ) → (F → Course) → (Setting → F → Lone → Type 0) → Setting → BoxName → Body F → Option (List Object × List Token) → Type 0
PutterAsks task course asked set box b None = ⊥
PutterAsks task course asked set box b (Some m) = BodyAsks task course asked set b (ToPutWait box m.1) × IsMessage set.program m.0 m.1

abbrev pub SleeperAsks : {F : Type 0} → (F → ℕ) → (F → Course) → (Setting → F → Lone → Type 0) → Setting → Waits → Sleeper F → Type 0
SleeperAsks task course asked set (wait.Take box) s = BodyAsks task course asked set s.body (ToTake box)
SleeperAsks task course asked set (wait.Put box) s = PutterAsks task course asked set box s.body s.message

-- ---- what waits there has to wait

abbrev pub WaitsRightly : {F : Type 0} → (BoxName → Box) → Waiter (Sleeper F) → Type 0
WaitsRightly boxes w = HasToWait w.waits (boxes (box_of w.waits)).mail

abbrev pub AllWait : {F : Type 0} → (BoxName → Box) → List (Waiter (Sleeper F)) → Type 0
AllWait {F} boxes ws = AllByRecursion (λ (w : Waiter (Sleeper F)). WaitsRightly boxes w) ws

-- but maybe at this mailbox
abbrev pub OthersWait : {F : Type 0} → BoxName → (BoxName → Box) → List (Waiter (Sleeper F)) → Type 0
OthersWait {F} name boxes ws = AllByRecursion (λ (w : Waiter (Sleeper F)). same_box (box_of w.waits) name ≡ false → WaitsRightly boxes w) ws

-- ---- what lies there

-- Each seat's cell tells which turn it is. The entries are acts on mailboxes of this turn, rise, and lead to what the mailboxes hold; what they
-- tell of histories, and the histories that lie here, are what the seats brought, took and made. Each task that waits asks for what it waits for.
pub record BoxesStand {F : Type 0} (task : F → ℕ) (course : F → Course) (asked : Setting → F → Lone → Type 0) (Of : Setting → Type 0) (b : Boxes F) : Type 0 where
  pub named : AllNamed b.number b.turns (ledger_cells b.ledger)
  pub here : AllByRecursion (λ (s : Stamped). (box : BoxName) → is_on box s ≡ true → turn_of b.turns box ≡ b.number) b.log.items
  pub acts : AllByRecursion (λ (s : Stamped). is_registered s ≡ false) b.log.items
  pub boxes : AllStand b.log.items (box_at b.posts)
  pub balances : Balances b.ledger (held b.parked.items) (told_by b.log.items b.log.items)
  pub messages : (set : Setting) → Of set → AllMessages set.program b.posts
  pub asks : (set : Setting) → Of set → AllByRecursion (λ (w : Waiter (Sleeper F)). SleeperAsks task course asked set w.waits w.fiber) b.parked.items
  pub waits : AllByRecursion (λ (w : Waiter (Sleeper F)). turn_of b.turns (box_of w.waits) ≡ b.number) b.parked.items
  pub many : b.many ≡ length b.parked.items

-- and each task that waits has to
pub record GroupStands {F : Type 0} (task : F → ℕ) (course : F → Course) (asked : Setting → F → Lone → Type 0) (Of : Setting → Type 0) (b : Boxes F) : Type 0 where
  pub stands : BoxesStand task course asked Of b
  pub rest : AllWait (box_at b.posts) b.parked.items

-- ---- what is asked, and what comes of it

abbrev pub AskMeets : {F : Type 0} → (F → ℕ) → (F → Course) → (Setting → F → Lone → Type 0) → Setting → BoxName → Body F → Ask → Type 0
AskMeets task course asked set box b (ask.Put tree shape) = BodyAsks task course asked set b (ToPut box shape) × IsMessage set.program tree shape
AskMeets task course asked set box b (ask.PutWait tree shape) = BodyAsks task course asked set b (ToPutWait box shape) × IsMessage set.program tree shape
AskMeets task course asked set box b ask.Take = BodyAsks task course asked set b (ToTake box)
AskMeets task course asked set box b ask.Probe = BodyAsks task course asked set b (ToProbe box)
AskMeets task course asked set box b (ask.Bound most) = BodyAsks task course asked set b (ToBound box most)

abbrev pub bodies_items : {F : Type 0} → List (Body F) → List Item
bodies_items [] = []
bodies_items (b ∷ bs) = items_of (trace_of b.history) ++ bodies_items bs

-- what a worker has in hand then
abbrev pub came_items : {F : Type 0} → Came F → List Item
came_items (came.Goes b woken) = items_of (trace_of b.history) ++ bodies_items woken.items
came_items (came.Over b) = items_of (trace_of b.history)
came_items came.Waits = []

abbrev pub CameStands : {F : Type 0} → (F → ℕ) → (F → Course) → (Setting → F → Lone → Type 0) → (Setting → F → Lone → Type 0) → Setting → Came F → Type 0
CameStands task course holds asked set (came.Goes b woken) = BodyStands task course holds asked set b × AllByRecursion (BodyStands task course holds asked set) woken.items
CameStands task course holds asked set (came.Over b) = IsTrace set (trace_of b.history) × (has_ended (trace_course (trace_of b.history)) ≡ true)
CameStands task course holds asked set came.Waits = Unit {0}
