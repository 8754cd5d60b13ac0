-- The mailboxes of a turn as contracts see them: a mailbox with its clock for every name.
use Rattle.std.specs.Prelude.{◌≡◌, ℕ, List, Option, Some, None}
use Rattle.std.specs.BTreeMap.{get}
use Rattle.kilim_program.specs.Program.{Program}
use Rattle.kilim_program.specs.declared.names.BoxName.{BoxName}
use Rattle.kilim_run_state.specs.declared.value.Token.{Token}
use Rattle.kilim_run_journal.specs.declared.entry.Act.{Act}
use Rattle.kilim_run_model.specs.State.{Mailbox, empty_mailbox}
use Rattle.kilim_run_board.specs.waiting.Mailboxes.{key_cmp}
use Rattle.kilim_mail_stamps.specs.Stamps.{mail_after}
use Rattle.kilim_mail_ledger.specs.Mailboxes.{Box, with_box}
use Rattle.kilim_mail_shard.specs.declared.post.Post.{Post}
use Rattle.kilim_mail_shard.specs.Post.{mail_in, MessagesStand, HasRoom}
use Rattle.kilim_mail_posts.specs.declared.posts.Posts.{Posts}

abbrev pub named : Posts → BoxName → Option Post
named m box = get key_cmp m.by_name (box.task, box.number)

-- a mailbox that no act has named is empty
abbrev pub box_in : Option Post → Box
box_in None = record { mail = empty_mailbox; clock = 0 }
box_in (Some p) = record { mail = mail_in p; clock = p.clock }

abbrev pub box_at : Posts → BoxName → Box
box_at m box = box_in (named m box)

abbrev pub SameBoxes : (BoxName → Box) → (BoxName → Box) → Type 0
SameBoxes boxes boxes' = (box : BoxName) → boxes' box ≡ boxes box

abbrev pub MessagesAt : Program → Option Post → Type 0
MessagesAt p None = Unit {0}
MessagesAt p (Some post) = MessagesStand p post.queue.items

-- each message that waits in any of them is one that the program's declared types allow, with its shape
abbrev pub AllMessages : Program → Posts → Type 0
AllMessages p m = (box : BoxName) → MessagesAt p (named m box)

-- the mailbox is named, and has room for one more message
pub record HasRoomAt (m : Posts) (box : BoxName) : Type 0 where
  pub post : Post
  pub is-named : named m box ≡ Some post
  pub room : HasRoom post

-- An act on a mailbox, with that stamp: the mailbox allows it, and the others are as they were.
pub record Writes (m : Posts) (name : BoxName) (act : Act) (stamp : ℕ) (m' : Posts) : Type 0 where
  pub next : Mailbox (List Token)
  pub allowed : mail_after (box_at m name).mail act ≡ Some next
  pub boxes : SameBoxes (with_box (box_at m) name (record { mail = next; clock = stamp })) (box_at m')

-- its clock is set alone
abbrev pub Marks : Posts → BoxName → ℕ → Posts → Type 0
Marks m name stamp m' = SameBoxes (with_box (box_at m) name (record { mail = (box_at m name).mail; clock = stamp })) (box_at m')
