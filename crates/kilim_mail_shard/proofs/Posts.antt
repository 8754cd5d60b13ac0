-- One message more, and one less.
use Rattle.std.proofs.Common.{◌≡◌, ℕ, suc, ◌+◌, Bool, true, false, ◌==◌, List, [], ◌∷◌, ◌++◌, Option, Some, None, length, map, refl, sym, ap, subst, ◌∙◌, arith}
use Rattle.std.specs.Prelude.{◌&&◌, not, if◌then◌else◌}
use Rattle.std.specs.List.{AllByRecursion}
use Rattle.std.proofs.lemmas.Bool.Decides.{nat_tests}
use Rattle.kilim_program.specs.Program.{Program}
use Rattle.kilim_program.specs.declared.names.BoxName.{BoxName}
use Rattle.kilim_run_state.specs.declared.value.Token.{Token}
use Rattle.kilim_run_journal.specs.declared.entry.Act.TheVariants.{Put, Take}
use Rattle.kilim_run_board.specs.fibers.Wishes.{IsMessage}
use Rattle.kilim_run_model.specs.State.{Mailbox, with_message, with_queue, is_full, is_full_at}
use Rattle.kilim_mail_stamps.specs.Stamps.{mail_put, mail_taken, mail_after}
use Rattle.kilim_mail_shard.specs.declared.post.Message.{Message}
use Rattle.kilim_mail_shard.specs.declared.post.Post.{Post}
use Rattle.kilim_mail_shard.specs.Post.{shown, mail_in, MessagesStand}
use Rattle.kilim_lemmas.proofs.Lists.{map_append}

pub length_shown : (ms : List Message) → length (map shown ms) ≡ length ms
length_shown [] = refl
length_shown (m ∷ ms) = ap suc (length_shown ms)

-- what is put stands behind the others
pub put_after : (p q : Post) (box : BoxName) (m : Message) (shape : List Token) → is_full (mail_in p) ≡ false → m.number ≡ p.puts → m.shape.value ≡ shape → q.most ≡ p.most → q.puts ≡ p.puts + 1 → q.queue.items ≡ p.queue.items ++ m ∷ [] →
    mail_after (mail_in p) (Put box p.puts shape) ≡ Some (mail_in q)
put_after p q box m shape free number value most puts items =
    let self : (p.puts == p.puts) ≡ true = grind (arith, nat_tests) in
    let test : (p.puts == p.puts && not (is_full (mail_in p))) ≡ true = ap (λ (b : Bool). b && not (is_full (mail_in p))) self ∙ ap (λ (b : Bool). not b) free in
    let queue : map shown q.queue.items ≡ map shown p.queue.items ++ (p.puts, shape) ∷ [] = ap (map shown) items ∙ (map_append shown p.queue.items (m ∷ []) ∙ ap (λ (x : ℕ × List Token). map shown p.queue.items ++ x ∷ []) (pair m.number p.puts m.shape.value shape number value)) in
    ap (λ (b : Bool). if b then Some (with_message (mail_in p) shape) else None) test ∙ ap Some (sym (made q (with_message (mail_in p) shape) most puts queue))
  where
    pair : (a b : ℕ) (s t : List Token) → a ≡ b → s ≡ t → ◌≡◌ {A = ℕ × List Token} (a, s) (b, t)
    pair a b s t e f = ap (λ (k : ℕ). (k, s)) e ∙ ap (λ (u : List Token). (b, u)) f

    made : (q : Post) (m : Mailbox (List Token)) → q.most ≡ m.most → q.puts ≡ m.puts → map shown q.queue.items ≡ m.queue → mail_in q ≡ m
    made q m a b c = λ i. record { most = a i; puts = b i; queue = c i }

-- what is taken is the first
pub take_after : (p q : Post) (box : BoxName) (m : Message) → q.most ≡ p.most → q.puts ≡ p.puts → p.queue.items ≡ m ∷ q.queue.items → mail_after (mail_in p) (Take box m.number) ≡ Some (mail_in q)
take_after p q box m most puts items =
    let self : (m.number == m.number) ≡ true = grind (arith, nat_tests) in
    let first : (mail_in p).queue ≡ shown m ∷ map shown q.queue.items = ap (map shown) items in
    let same : with_queue (mail_in p) (map shown q.queue.items) ≡ mail_in q = λ i. record { most = sym most i; puts = sym puts i; queue = map shown q.queue.items } in
    ap (mail_taken (mail_in p) m.number) first ∙ (ap (λ (b : Bool). if b then Some (with_queue (mail_in p) (map shown q.queue.items)) else None) self ∙ ap Some same)

pub messages_put : (p : Program) (old new : List Message) (m : Message) (shape : List Token) → new ≡ old ++ m ∷ [] → m.shape.value ≡ shape → MessagesStand p old → IsMessage p m.tree shape → MessagesStand p new
messages_put p old new m shape items value stand is = subst (λ (ms : List Message). MessagesStand p ms) (sym items) (on old stand)
  where
    on : (ms : List Message) → MessagesStand p ms → MessagesStand p (ms ++ m ∷ [])
    on [] all = (subst (λ (s : List Token). IsMessage p m.tree s) (sym value) is, tt)
    on (x ∷ ms) (h, all) = (h, on ms all)

pub message_first : (p : Program) (old new : List Message) (m : Message) → old ≡ m ∷ new → MessagesStand p old → IsMessage p m.tree m.shape.value × MessagesStand p new
message_first p old new m items stand = let all : MessagesStand p (m ∷ new) = subst (λ (ms : List Message). MessagesStand p ms) items stand in (all.0, all.1)

pub full_shown : (p : Post) (b : Bool) → b ≡ is_full_at p.most (length p.queue.items) → b ≡ is_full (mail_in p)
full_shown p b e = e ∙ ap (is_full_at p.most) (sym (length_shown p.queue.items))
