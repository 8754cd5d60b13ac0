-- What a worker has of its own: the entries that it made without a turn, and the tasks that ended in its hands.
use Rattle.std.specs.Prelude.{◌≡◌, ℕ, ◌+◌, ◌<◌, true, false, List, [], ◌∷◌, ◌++◌, None}
use Rattle.std.specs.List.{AllByRecursion}
use Rattle.kilim_program.specs.declared.names.BoxName.{BoxName}
use Rattle.kilim_run_state.specs.declared.cause.EndCause.{EndCause}
use Rattle.kilim_run_journal.specs.declared.entry.Act.{Act}
use Rattle.kilim_run_model.specs.State.{Setting}
use Rattle.kilim_run_model.specs.Course.{plain, has_ended}
use Rattle.kilim_run_board.specs.fibers.Wishes.{ToEnd, Wishes}
use Rattle.kilim_mail_stamps.specs.Stamps.{box_in, is_that, is_starting}
use Rattle.kilim_mail_stamps.specs.Merging.{weigh}
use Rattle.kilim_mail_ledger.specs.declared.items.Item.{Item}
use Rattle.kilim_mail_ledger.specs.Ledger.{Trace, items_of, trace_course, IsTrace}
use Rattle.kilim_mail_ledger.specs.Goings.{latest, longer}
use Rattle.kilim_mail_notes.specs.Histories.{trace_of}
use Rattle.kilim_mail_parts.specs.Parts.{IsOwn}
use Rattle.kilim_mail_register.specs.Register.{told_by}
use Rattle.kilim_mail_ready.specs.declared.body.Body.{Body}
use Rattle.kilim_mail_worker.specs.declared.own.Graves.{Graves, Nothing, After'}
use Rattle.kilim_mail_worker.specs.declared.own.Own.{Own}

abbrev pub graves_of : Graves → List Trace
graves_of Nothing = []
graves_of (After' s past h) = graves_of past ++ trace_of h.value ∷ []

-- their histories
abbrev pub buried : Own → List Trace
buried o = graves_of o.graves.value

abbrev pub traces_items : List Trace → List Item
traces_items [] = []
traces_items (t ∷ ts) = items_of t ++ traces_items ts

-- the history is that of a thread that has ended
abbrev pub IsOver : Setting → Trace → Type 0
IsOver set t = IsTrace set t × (has_ended (trace_course t) ≡ true)

-- its entries need no turn, and those tasks have ended
pub record OwnStands (Of : Setting → Type 0) (o : Own) : Type 0 where
  pub log : IsOwn o.log.items
  pub over : (set : Setting) → Of set → AllByRecursion (IsOver set) (buried o)

-- what it made by itself
abbrev pub own_items : Own → List Item
own_items o = told_by [] o.log.items

-- ---- an entry without a turn

-- a task in hand whose thread ends by itself
pub record BodyEnds {F : Type 0} (set : Setting) (b : Body F) (why : EndCause) : Type 0 where
  pub trace : IsTrace set (trace_of b.history)
  pub clock : b.clock ≡ latest (trace_of b.history).stamp (trace_of b.history).past
  pub wishes : Wishes set b.history.task (trace_course (trace_of b.history)) (ToEnd why)

-- it is no act on a mailbox, and starts nothing
pub record IsAlone (a : Act) : Type 0 where
  pub no_box : (box : BoxName) → is_that box (box_in None a) ≡ false
  pub no_start : is_starting a ≡ false

-- one entry more of a task in hand
pub record NotesAlone {F : Type 0} (o o' : Own) (old new : Body F) (a : Act) : Type 0 where
  pub stamp : ℕ
  pub later : old.clock < stamp
  pub log : o'.log.items ≡ o.log.items ++ record { stamp = stamp; full = None; entry = record { task = old.history.task; act = a } } ∷ []
  pub graves : buried o' ≡ buried o
  pub fiber : new.fiber ≡ old.fiber
  pub clock : new.clock ≡ stamp
  pub task : new.history.task ≡ old.history.task
  pub history : trace_of new.history ≡ longer (trace_of old.history) (record { stamp = stamp; full = None; deed = plain a })

-- a task in hand did something: what a worker has in hand was `before` and is `after`
pub record MadeAlone (Of : Setting → Type 0) (o o' : Own) (before after : List Item) : Type 0 where
  pub stands : OwnStands Of o → OwnStands Of o'
  pub weighs : (h : Item → ℕ) → weigh h after + weigh h (traces_items (buried o')) + weigh h (own_items o) ≡ weigh h before + weigh h (traces_items (buried o)) + weigh h (own_items o')
