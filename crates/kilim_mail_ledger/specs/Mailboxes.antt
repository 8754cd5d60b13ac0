-- The mailboxes that one turn has, as the turn's value holds them, against the entries that were noted under it.
use Rattle.std.specs.Prelude.{◌≡◌, ℕ, ◌<◌, ◌≤◌, ◌+◌, ◌%◌, if◌then◌else◌, List, [], ◌∷◌, ◌++◌, Some, filter}
use Rattle.kilim_program.specs.declared.names.BoxName.{BoxName}
use Rattle.kilim_run_state.specs.declared.value.Token.{Token}
use Rattle.kilim_run_model.specs.State.{Mailbox, empty_mailbox, same_box}
use Rattle.kilim_mail_stamps.specs.declared.stamped.Stamped.{Stamped}
use Rattle.kilim_mail_stamps.specs.Stamps.{box_in, is_on, mail_after, Rises, shape_put}
use Rattle.kilim_mail_stamps.specs.Leading.{RunsTo}
use Rattle.kilim_mail_stamps.specs.Merging.{weigh}
use Rattle.kilim_mail_ledger.specs.declared.items.Item.{Item}
use Rattle.kilim_mail_ledger.specs.Ledger.{entry_items}

-- a mailbox, its messages by their shapes, and its clock
pub record Box : Type 0 where
  pub mail : Mailbox (List Token)
  pub clock : ℕ

abbrev pub with_box : (BoxName → Box) → BoxName → Box → BoxName → Box
with_box boxes box b = λ x. if same_box x box then b else boxes x

-- the turn of a mailbox, of so many
abbrev pub turn_of : ℕ → BoxName → ℕ
turn_of turns box = (box.task + box.number) % turns

-- no stamp is greater
abbrev pub UpTo : ℕ → List Stamped → Type 0
UpTo n [] = Unit {0}
UpTo n (s ∷ ss) = (s.stamp ≤ n) × UpTo n ss

-- the entries of the mailbox rise up to its clock and lead to what it holds
pub record BoxStands (box : BoxName) (log : List Stamped) (b : Box) : Type 0 where
  pub rises : Rises (filter (is_on box) log)
  pub upto : UpTo b.clock (filter (is_on box) log)
  pub run : RunsTo empty_mailbox (filter (is_on box) log) b.mail

abbrev pub AllStand : List Stamped → (BoxName → Box) → Type 0
AllStand log boxes = (x : BoxName) → BoxStands x log (boxes x)

-- Any act that its mailbox allows, with a stamp above the mailbox's clock: a put or a take, a probe of an empty mailbox, a bound, and the end of
-- a task at a full one. A message that is handed over is two acts.
abbrev pub ActsAreNoted : Type 0
ActsAreNoted = (log : List Stamped) (boxes : BoxName → Box) (box : BoxName) (s : Stamped) (next : Mailbox (List Token)) → AllStand log boxes → box_in s.full s.entry.act ≡ Some box → mail_after (boxes box).mail s.entry.act ≡ Some next → (boxes box).clock < s.stamp →
    AllStand (log ++ s ∷ []) (with_box boxes box (record { mail = next; clock = s.stamp }))

-- what waits has the shape that was put under its number
abbrev pub HaveShapes : List Stamped → BoxName → List (ℕ × List Token) → Type 0
HaveShapes log box [] = Unit {0}
HaveShapes log box (q ∷ qs) = (shape_put box q.0 log ≡ q.1) × HaveShapes log box qs

abbrev pub WaitingAreKnown : Type 0
WaitingAreKnown = (log : List Stamped) (boxes : BoxName → Box) → AllStand log boxes → (x : BoxName) → HaveShapes log x (boxes x).mail.queue

-- What the entries of a turn tell of the tasks' histories stays as others are noted behind them: what is taken was put before.
abbrev pub ItemsStay : Type 0
ItemsStay = (h : Item → ℕ) (log more : List Stamped) (boxes : BoxName → Box) → AllStand log boxes → weigh (λ (s : Stamped). weigh h (entry_items (log ++ more) s)) log ≡ weigh (λ (s : Stamped). weigh h (entry_items log s)) log
