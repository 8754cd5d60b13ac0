-- The mailboxes of a replay as contracts see them: a mailbox for every name.
use Rattle.std.specs.Prelude.{◌≡◌, ℕ, Option, Some, None}
use Rattle.std.specs.declared.cmp.Ordering.{Ordering}
use Rattle.std.specs.Ordering.{nat_cmp, ordering_then}
use Rattle.std.specs.BTreeMap.{get}
use Rattle.kilim_program.specs.declared.names.BoxName.{BoxName}
use Rattle.kilim_run_model.specs.State.{Mailbox, empty_mailbox}
use Rattle.kilim_replay.specs.declared.mailboxes.Mailboxes.{Mailboxes}
use Rattle.kilim_replay.specs.declared.mailboxes.Post.{Post}

-- names by their tasks, then by their numbers
abbrev pub key_cmp : ℕ × ℕ → ℕ × ℕ → Ordering
key_cmp a b = ordering_then (nat_cmp a.0 b.0) (nat_cmp a.1 b.1)

abbrev pub named : Mailboxes → BoxName → Option Post
named m box = get key_cmp m.by_name (box.task, box.number)

-- a mailbox that isn't listed is empty, and has no bound
abbrev pub mail_in : Option Post → Mailbox ℕ
mail_in None = empty_mailbox
mail_in (Some post) = record { most = post.most; puts = post.puts; queue = post.queue.items }

abbrev pub mail_of : Mailboxes → BoxName → Mailbox ℕ
mail_of m box = mail_in (named m box)

abbrev pub SameMails : (BoxName → Mailbox ℕ) → (BoxName → Mailbox ℕ) → Type 0
SameMails mails mails' = (box : BoxName) → mails' box ≡ mails box
