-- The mailboxes of the board as contracts see them: a mailbox for every name.
use Rattle.std.specs.Prelude.{◌≡◌, ℕ, ◌<◌, Bool, ◌==◌, List, Option, Some, None, length}
use Rattle.std.specs.declared.cmp.Ordering.{Ordering}
use Rattle.std.specs.Ordering.{nat_cmp, ordering_then}
use Rattle.std.specs.BTreeMap.{get}
use Rattle.kilim_program.specs.declared.names.BoxName.{BoxName}
use Rattle.kilim_run_state.specs.declared.value.Object.{Object}
use Rattle.kilim_run_state.specs.declared.value.Token.{Token}
use Rattle.kilim_run_model.specs.State.{Mailbox, empty_mailbox, is_full}
use Rattle.kilim_run_model.specs.declared.waits.Waits.{Waits}
use Rattle.kilim_run_model.specs.declared.waits.Waits.TheVariants as wait
use Rattle.kilim_run_board.specs.mailbox.Mailbox.{Content}
use Rattle.kilim_run_board.specs.declared.waiting.mailboxes.Mailboxes.{Mailboxes}

-- a tree on its way: its objects in preorder, with places in this list as references
abbrev pub Tree : Type 0
Tree = List Object

-- a mailbox of the board holds trees, one of the journal holds their shapes
abbrev pub Mail : Type 0
Mail = Mailbox Tree

abbrev pub Post : Type 0
Post = Mailbox (List Token)

abbrev pub key_cmp : ℕ × ℕ → ℕ × ℕ → Ordering
key_cmp a b = ordering_then (nat_cmp a.0 b.0) (nat_cmp a.1 b.1)

abbrev pub named : Mailboxes → BoxName → Option Content
named m box = get key_cmp m.by_name (box.task, box.number)

-- a mailbox that no act has named is empty
abbrev pub mail_in : Option Content → Mail
mail_in None = empty_mailbox
mail_in (Some c) = record { most = c.most; puts = c.puts; queue = c.queue }

abbrev pub mail_of : Mailboxes → BoxName → Mail
mail_of m box = mail_in (named m box)

abbrev pub SameMails : (BoxName → Mail) → (BoxName → Mail) → Type 0
SameMails mails mails' = (box : BoxName) → mails' box ≡ mails box

-- what is waited for isn't there
abbrev pub has_to_wait : (BoxName → Mail) → Waits → Bool
has_to_wait mails (wait.Take box) = length (mails box).queue == 0
has_to_wait mails (wait.Put box) = is_full (mails box)

-- the mailbox is named, and has room for one more message
pub record HasRoom (m : Mailboxes) (box : BoxName) : Type 0 where
  pub content : Content
  pub is-named : named m box ≡ Some content
  pub room : length content.queue < content.room
