-- What the steps of an act on a mailbox do.
use Rattle.std.specs.Prelude.{◌≡◌, ℕ, ◌+◌, ◌<◌, ◌≤◌, true, false, List, [], ◌∷◌, ◌++◌, Option, Some, None, length}
use Rattle.std.specs.List.{AllByRecursion}
use Rattle.kilim_program.specs.declared.names.BoxName.{BoxName}
use Rattle.kilim_run_state.specs.declared.value.Object.{Object}
use Rattle.kilim_run_state.specs.declared.value.Token.{Token}
use Rattle.kilim_run_journal.specs.declared.entry.Act.{Act}
use Rattle.kilim_run_journal.specs.declared.entry.Act.TheVariants as act
use Rattle.kilim_run_model.specs.State.{Setting, same_box}
use Rattle.kilim_run_model.specs.Lone.{Lone}
use Rattle.kilim_run_model.specs.Course.{Course, plain, has_ended}
use Rattle.kilim_run_model.specs.declared.waits.Waits.{Waits}
use Rattle.kilim_run_turn.specs.Views.{cell_at}
use Rattle.kilim_run_turn.specs.Turns.{KeepsOthers}
use Rattle.kilim_run_board.specs.declared.waiting.parked.Waiter.{Waiter}
use Rattle.kilim_run_board.specs.declared.fibers.Answer.{Answer}
use Rattle.kilim_run_board.specs.fibers.Fibers.{Fits}
use Rattle.kilim_run_board.specs.declared.fibers.Answer.TheVariants as answer
use Rattle.kilim_run_board.specs.fibers.Wishes.{IsMessage, Wish}
use Rattle.kilim_run_board.specs.Places.{same_wait}
use Rattle.kilim_run_board.specs.waiting.Parked.{woken}
use Rattle.kilim_mail_stamps.specs.Stamps.{is_starting}
use Rattle.kilim_mail_stamps.specs.Merging.{weigh}
use Rattle.kilim_mail_ledger.specs.declared.items.Dated.{Dated}
use Rattle.kilim_mail_ledger.specs.declared.items.Item.{Item}
use Rattle.kilim_mail_ledger.specs.Ledger.{items_of, trace_course, IsTrace}
use Rattle.kilim_mail_ledger.specs.Goings.{longer}
use Rattle.kilim_mail_ledger.specs.Mailboxes.{Box, turn_of}
use Rattle.kilim_mail_notes.specs.Histories.{trace_of}
use Rattle.kilim_mail_notes.specs.Notes.{ledger_cells, made_items, Accounts, Balances}
use Rattle.kilim_mail_ready.specs.declared.body.Body.{Body}
use Rattle.kilim_mail_ready.specs.Ready.{BodyStands}
use Rattle.kilim_mail_posts.specs.Posts.{box_at}
use Rattle.kilim_mail_group.specs.declared.boxes.Boxes.{Boxes}
use Rattle.kilim_mail_group.specs.declared.boxes.Sleeper.{Sleeper}
use Rattle.kilim_mail_group.specs.Group.{BodyAsks, BoxesStand, WaitsRightly, OthersWait, AllWait}

-- it is this act, and starts nothing
pub record IsDeed (d : Dated) (a : Act) : Type 0 where
  pub act-is : d.deed.act ≡ a
  pub plain : is_starting a ≡ false

-- one entry more of a task in hand, by that seat
pub record IsNoted {F : Type 0} (seat : ℕ) (b b' : Boxes F) (old new : Body F) (d : Dated) (a : Act) : Type 0 where
  pub number : b'.number ≡ b.number
  pub turns : b'.turns ≡ b.turns
  pub log : b'.log.items ≡ b.log.items ++ record { stamp = d.stamp; full = d.full; entry = record { task = old.history.task; act = a } } ∷ []
  pub posts : b'.posts ≡ b.posts
  pub parked : b'.parked.items ≡ b.parked.items
  pub many : b'.many ≡ b.many
  pub others : KeepsOthers seat (ledger_cells b.ledger) (ledger_cells b'.ledger)
  pub seats : b'.ledger.seats ≡ b.ledger.seats
  pub accounts : Accounts (cell_at (ledger_cells b.ledger) seat) (cell_at (ledger_cells b'.ledger) seat) (items_of (trace_of old.history)) (items_of (trace_of new.history))
  pub balances : (held made made' : List Item) → Balances b.ledger held made → ((h : Item → ℕ) → weigh h made' ≡ weigh h made + weigh h (made_items old.history.task d)) → Balances b'.ledger held made'
  pub fiber : new.fiber ≡ old.fiber
  pub clock : new.clock ≡ d.stamp
  pub task : new.history.task ≡ old.history.task
  pub history : trace_of new.history ≡ longer (trace_of old.history) d

-- the other mailboxes are as they were
abbrev pub Elsewhere : {F : Type 0} → BoxName → Boxes F → Boxes F → Type 0
Elsewhere name b b' = (box : BoxName) → same_box box name ≡ false → box_at b'.posts box ≡ box_at b.posts box

-- a task in hand did something at a mailbox: what a worker has in hand was `before` and is `after`
pub record Acts {F : Type 0} (task : F → ℕ) (course : F → Course) (asked : Setting → F → Lone → Type 0) (Of : Setting → Type 0) (seat : ℕ) (name : BoxName) (b b' : Boxes F) (before after : List Item) : Type 0 where
  pub number : b'.number ≡ b.number
  pub turns : b'.turns ≡ b.turns
  pub seats : b'.ledger.seats ≡ b.ledger.seats
  pub many : b'.many ≤ b.many
  pub stands : BoxesStand task course asked Of b'
  pub accounts : Accounts (cell_at (ledger_cells b.ledger) seat) (cell_at (ledger_cells b'.ledger) seat) before after
  pub rest : OthersWait name (box_at b.posts) b.parked.items → OthersWait name (box_at b'.posts) b'.parked.items

-- the first that waits for this goes, by that seat
pub record Wakes {F : Type 0} (seat : ℕ) (b b' : Boxes F) (waits : Waits) (w : Waiter (Sleeper F)) : Type 0 where
  pub number : b'.number ≡ b.number
  pub turns : b'.turns ≡ b.turns
  pub log : b'.log.items ≡ b.log.items
  pub posts : b'.posts ≡ b.posts
  pub parked : woken waits b.parked.items ≡ Some (w, b'.parked.items)
  pub many : b'.many + 1 ≡ b.many
  pub seats : b'.ledger.seats ≡ b.ledger.seats
  pub others : KeepsOthers seat (ledger_cells b.ledger) (ledger_cells b'.ledger)
  pub accounts : Accounts (cell_at (ledger_cells b.ledger) seat) (cell_at (ledger_cells b'.ledger) seat) [] (items_of (trace_of w.fiber.body.history))
  pub balances : (held held' made : List Item) → Balances b.ledger held made → ((h : Item → ℕ) → weigh h held ≡ weigh h held' + weigh h (items_of (trace_of w.fiber.body.history))) → Balances b'.ledger held' made

-- the answer with the deed that it makes fits what the task asks
pub record IsAsked {F : Type 0} (task : F → ℕ) (course : F → Course) (asked : Setting → F → Lone → Type 0) (set : Setting) (b : Body F) (a : Answer) (d : Dated) : Type 0 where
  pub wish : Wish
  pub asks : BodyAsks task course asked set b wish
  pub fits : Fits set.program wish a (Some d.deed)

-- a task in hand may put this message there
pub record MayPut {F : Type 0} (task : F → ℕ) (course : F → Course) (asked : Setting → F → Lone → Type 0) (set : Setting) (name : BoxName) (b : Body F) (tree : List Object) (shape : List Token) : Type 0 where
  pub wish : Wish
  pub asks : BodyAsks task course asked set b wish
  pub fits : (n : ℕ) → Fits set.program wish (answer.Sent n) (Some (plain (act.Put name n shape)))
  pub message : IsMessage set.program tree shape

-- or take one
pub record MayTake {F : Type 0} (task : F → ℕ) (course : F → Course) (asked : Setting → F → Lone → Type 0) (set : Setting) (name : BoxName) (b : Body F) : Type 0 where
  pub wish : Wish
  pub asks : BodyAsks task course asked set b wish
  pub fits : (tree : List Object) (n : ℕ) (shape : List Token) → IsMessage set.program tree shape → Fits set.program wish (answer.Message tree n) (Some (record { act = act.Take name n; taken = shape }))

-- ---- who is served

-- all that is told of it is as before
pub record IsSame {F : Type 0} (b b' : Boxes F) : Type 0 where
  pub number : b'.number ≡ b.number
  pub turns : b'.turns ≡ b.turns
  pub ledger : b'.ledger ≡ b.ledger
  pub log : b'.log.items ≡ b.log.items
  pub posts : b'.posts ≡ b.posts
  pub parked : b'.parked.items ≡ b.parked.items
  pub many : b'.many ≡ b.many

module _ {F : Type 0} (task : F → ℕ) (course : F → Course) (asked : Setting → F → Lone → Type 0) (Of : Setting → Type 0) where
  -- one that waited for this does it; or nobody waits for it
  abbrev pub ServedFor : ℕ → BoxName → Waits → Boxes F → Boxes F → Option (Body F) → Type 0
  ServedFor seat name waits b b' (Some body) = Acts task course asked Of seat name b b' [] (items_of (trace_of body.history)) × (b'.many < b.many)
  ServedFor seat name waits b b' None = IsSame b b' × (woken waits b.parked.items ≡ None)

  -- the same; or nobody that waits for it needn't
  abbrev pub ServedOf : ℕ → BoxName → Waits → Boxes F → Boxes F → Option (Body F) → Type 0
  ServedOf seat name waits b b' (Some body) = Acts task course asked Of seat name b b' [] (items_of (trace_of body.history)) × (b'.many < b.many)
  ServedOf seat name waits b b' None = IsSame b b' × AllByRecursion (λ (w : Waiter (Sleeper F)). same_wait waits w.waits ≡ true → WaitsRightly (box_at b.posts) w) b.parked.items

  -- one that waited at this mailbox; or nobody is left there that needn't wait
  abbrev pub ServedAt : ℕ → BoxName → Boxes F → Boxes F → Option (Body F) → Type 0
  ServedAt seat name b b' (Some body) = Acts task course asked Of seat name b b' [] (items_of (trace_of body.history)) × (b'.many < b.many)
  ServedAt seat name b b' None = IsSame b b' × (OthersWait name (box_at b.posts) b.parked.items → AllWait (box_at b'.posts) b'.parked.items)

abbrev pub MaybeStands : {F : Type 0} → (F → ℕ) → (F → Course) → (Setting → F → Lone → Type 0) → (Setting → F → Lone → Type 0) → Setting → Option (Body F) → Type 0
MaybeStands task course holds asked set (Some b) = BodyStands task course holds asked set b
MaybeStands task course holds asked set None = Unit {0}
