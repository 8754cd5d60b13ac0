-- A map of mailboxes that changes at one name.
use Rattle.std.proofs.Common.{◌≡◌, ℕ, Bool, true, false, cond, List, [], Option, Some, None, refl, sym, ap, subst, ◌∙◌}
use Rattle.std.specs.Prelude.{if◌then◌else◌, IfSome, IfNone}
use Rattle.std.specs.BTreeMap.{BTreeMap, get, UpdatesBy}
use Rattle.kilim_program.specs.Program.{Program}
use Rattle.kilim_program.specs.declared.names.BoxName.{BoxName}
use Rattle.kilim_run_state.specs.declared.value.Token.{Token}
use Rattle.kilim_run_journal.specs.declared.entry.Act.{Act}
use Rattle.kilim_run_model.specs.State.{Mailbox, empty_mailbox, same_box}
use Rattle.kilim_run_board.specs.waiting.Mailboxes.{key_cmp}
use Rattle.kilim_run_board.proofs.waiting.Named.{key_is}
use Rattle.kilim_run_board.proofs.waiting.Names.{same_name}
use Rattle.kilim_mail_stamps.specs.Stamps.{mail_after}
use Rattle.kilim_mail_ledger.specs.Mailboxes.{Box, with_box}
use Rattle.kilim_mail_shard.specs.declared.post.Post.{Post}
use Rattle.kilim_lemmas.proofs.Lists.{map_none}
use Rattle.kilim_mail_shard.specs.declared.post.Message.{Message}
use Rattle.kilim_mail_shard.specs.Post.{shown, mail_in, MessagesStand}
use Rattle.kilim_mail_posts.specs.declared.posts.Posts.{Posts}
use Rattle.kilim_mail_posts.specs.Posts.{named, box_in, box_at, SameBoxes, MessagesAt, AllMessages, Writes, Marks}

abbrev made : Mailbox (List Token) → ℕ → Box
made mail clock = record { mail = mail; clock = clock }

chosen : (b : Bool) (q : Post) (o : Option Post) → box_in (cond b (Some q) o) ≡ cond b (box_in (Some q)) (box_in o)
chosen true q o = refl
chosen false q o = refl

module _ (m n : Posts) (name : BoxName) (q : Post) (updates : UpdatesBy key_cmp (key_cmp (name.task, name.number)) m.by_name n.by_name (Some q)) where
  now_named : (box : BoxName) → named n box ≡ cond (same_box box name) (Some q) (named m box)
  now_named box = updates.0 (box.task, box.number) ∙ ap (λ (b : Bool). cond b (Some q) (named m box)) (key_is name box)

  -- the mailbox of that name is another one
  pub written : (b : Box) → box_in (Some q) ≡ b → SameBoxes (with_box (box_at m) name b) (box_at n)
  written b is box = ap box_in (now_named box) ∙ (chosen (same_box box name) q (named m box) ∙ ap (λ (x : Box). cond (same_box box name) x (box_at m box)) is)

  pub messages_in : (p : Program) → AllMessages p m → MessagesStand p q.queue.items → AllMessages p n
  messages_in p all stand box = subst (λ (o : Option Post). MessagesAt p o) (sym (now_named box)) (by (same_box box name))
    where
      by : (b : Bool) → MessagesAt p (cond b (Some q) (named m box))
      by true = stand
      by false = all box

  module _ (old : Post) (there : named m name ≡ Some old) where
    pub writes : (act : Act) (stamp : ℕ) → mail_after (mail_in old) act ≡ Some (mail_in q) → q.clock ≡ stamp → Writes m name act stamp n
    writes act stamp allowed clock = record {
      next = mail_in q;
      allowed = ap (λ (o : Option Post). mail_after (box_in o).mail act) there ∙ allowed;
      boxes = written (record { mail = mail_in q; clock = stamp }) (ap (λ (k : ℕ). made (mail_in q) k) clock);
    }

    pub marks : (stamp : ℕ) → mail_in q ≡ mail_in old → q.clock ≡ stamp → Marks m name stamp n
    marks stamp same clock =
        written (record { mail = (box_at m name).mail; clock = stamp })
        (ap (λ (k : ℕ). made (mail_in q) k) clock ∙ ap (λ (x : Mailbox (List Token)). made x stamp) (same ∙ sym (ap (λ (o : Option Post). (box_in o).mail) there)))

    pub stays : mail_in q ≡ mail_in old → q.clock ≡ old.clock → SameBoxes (box_at m) (box_at n)
    stays same clock box =
        written (box_at m name) (as_was ∙ sym (ap box_in there)) box ∙ itself (same_box box name) refl
      where
        as_was : box_in (Some q) ≡ box_in (Some old)
        as_was = ap (λ (k : ℕ). made (mail_in q) k) clock ∙ ap (λ (x : Mailbox (List Token)). made x old.clock) same

        itself : (b : Bool) → same_box box name ≡ b → with_box (box_at m) name (box_at m name) box ≡ box_at m box
        itself true e = ap (λ (x : Bool). if x then box_at m name else box_at m box) e ∙ ap (box_at m) (sym (same_name box name e))
        itself false e = ap (λ (x : Bool). if x then box_at m name else box_at m box) e

    pub old_messages : (p : Program) → AllMessages p m → MessagesStand p old.queue.items
    old_messages p all = subst (λ (o : Option Post). MessagesAt p o) there (all name)

  -- one that wasn't named is empty
  pub added : named m name ≡ None → mail_in q ≡ empty_mailbox → q.clock ≡ 0 → SameBoxes (box_at m) (box_at n)
  added none empty clock box =
      written (box_at m name) (as_new ∙ sym (ap box_in none)) box ∙ itself (same_box box name) refl
    where
      as_new : box_in (Some q) ≡ box_in None
      as_new = ap (λ (k : ℕ). made (mail_in q) k) clock ∙ ap (λ (x : Mailbox (List Token)). made x 0) empty

      itself : (b : Bool) → same_box box name ≡ b → with_box (box_at m) name (box_at m name) box ≡ box_at m box
      itself true e = ap (λ (x : Bool). if x then box_at m name else box_at m box) e ∙ ap (box_at m) (sym (same_name box name e))
      itself false e = ap (λ (x : Bool). if x then box_at m name else box_at m box) e

-- no message waits in an empty one
pub none_stand : (p : Program) (q : Post) → mail_in q ≡ empty_mailbox → MessagesStand p q.queue.items
none_stand p q e = subst (λ (ms : List Message). MessagesStand p ms) (sym (map_none shown q.queue.items (ap (λ (m : Mailbox (List Token)). m.queue) e))) tt

-- what is so of what was taken, or where nothing was
pub some_both : {A : Type 0} {P Q R : A → Type 0} (o : Option A) → ((x : A) → P x → Q x → R x) → IfSome o P → IfSome o Q → IfSome o R
some_both None f p q = tt
some_both (Some x) f p q = f x p q

pub none_both : {A P Q R : Type 0} (o : Option A) → (P → Q → R) → IfNone o P → IfNone o Q → IfNone o R
none_both None f p q = f p q
none_both (Some x) f p q = tt
