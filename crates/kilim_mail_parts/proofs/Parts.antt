-- All parts together.
use Rattle.std.proofs.Common.{◌≡◌, ◌≢◌, ℕ, zero, suc, ◌+◌, ◌<◌, ◌≤◌, Bool, true, false, ◌==◌, List, [], ◌∷◌, ◌++◌, append-nil, Option, refl, sym, ap, subst, ◌∙◌, arith}
use Rattle.std.specs.Prelude.{filter}
use Rattle.std.specs.List.{AllByRecursion}
use Rattle.std.proofs.lemmas.Bool.Decides.{nat_tests}
use Rattle.kilim_program.specs.declared.names.BoxName.{BoxName}
use Rattle.kilim_run_state.specs.declared.value.Token.{Token}
use Rattle.kilim_run_journal.specs.declared.entry.Act.{Act}
use Rattle.kilim_run_journal.specs.declared.entry.Act.TheVariants.{Put, Take, Empty, Bound, Start, Print, End, Wait}
use Rattle.kilim_run_model.specs.State.{Setting, empty_mailbox}
use Rattle.kilim_run_model.specs.declared.deed.Deed.{Deed}
use Rattle.kilim_run_model.specs.declared.deed.Beginning.TheVariants.{Boot}
use Rattle.kilim_mail_stamps.specs.declared.stamped.Stamped.{Stamped}
use Rattle.kilim_mail_stamps.specs.Stamps.{joined, box_in, is_that, is_on, is_registered, Rises, MailFrom, RegisterFrom, shape_put, deed_in}
use Rattle.kilim_mail_stamps.specs.Merging.{weigh}
use Rattle.kilim_mail_stamps.proofs.Order.{kept, passed}
use Rattle.kilim_mail_stamps.proofs.Steps.{same_self}
use Rattle.kilim_mail_stamps.proofs.Weights.{weigh_append}
use Rattle.kilim_mail_ledger.specs.declared.items.Item.{Item}
use Rattle.kilim_mail_ledger.specs.declared.items.Item.TheVariants.{Born, Did}
use Rattle.kilim_mail_ledger.specs.Ledger.{Trace, items_of, born_items, entry_items, IsTrace, Balanced}
use Rattle.kilim_mail_ledger.specs.Mailboxes.{turn_of}
use Rattle.kilim_mail_ledger.proofs.Balances.{shape_among}
use Rattle.kilim_mail_ledger.proofs.Mailboxes.{filter_append}
use Rattle.kilim_mail_register.specs.Register.{told_by, IsRegister}
use Rattle.kilim_mail_parts.specs.Parts.{IsTurn, AreTurns, IsOwn, turns_told, own_told, all_parts, PartsBalance}

joined_append : (xs ys : List (List Stamped)) → joined (xs ++ ys) ≡ joined xs ++ joined ys
joined_append [] ys = refl
joined_append (x ∷ xs) ys = ap (λ (zs : List Stamped). x ++ zs) (joined_append xs ys) ∙ assoc x (joined xs) (joined ys)
  where
    assoc : (a b c : List Stamped) → a ++ (b ++ c) ≡ (a ++ b) ++ c
    assoc [] b c = refl
    assoc (x ∷ a) b c = ap (λ (zs : List Stamped). x ∷ zs) (assoc a b c)

-- what three parts have that passes a test
three : (p : Stamped → Bool) (register : List Stamped) (logs owns : List (List Stamped)) → filter p (joined (all_parts register logs owns)) ≡ filter p register ++ (filter p (joined logs) ++ filter p (joined owns))
three p register logs owns =
    filter_append p register (joined (logs ++ owns))
    ∙ ap (λ (zs : List Stamped). filter p register ++ zs) (ap (filter p) (joined_append logs owns) ∙ filter_append p (joined logs) (joined owns))

owns_none : (p : Stamped → Bool) (owns : List (List Stamped)) → AllByRecursion (λ (log : List Stamped). filter p log ≡ []) owns → filter p (joined owns) ≡ []
owns_none p [] all = refl
owns_none p (log ∷ owns) (h, all) = filter_append p log (joined owns) ∙ (ap (λ (zs : List Stamped). zs ++ filter p (joined owns)) h ∙ owns_none p owns all)

abbrev IsHere : ℕ → ℕ → Stamped → Type 0
IsHere turns number s = (box : BoxName) → is_on box s ≡ true → turn_of turns box ≡ number

-- a mailbox of another turn has no entries here
none_here : (turns number : ℕ) (box : BoxName) (log : List Stamped) → AllByRecursion (IsHere turns number) log → turn_of turns box ≢ number → filter (is_on box) log ≡ []
none_here turns number box [] all ne = refl
none_here turns number box (s ∷ log) (h, all) ne = by (is_on box s) refl (none_here turns number box log all ne)
  where
    by : (b : Bool) → is_on box s ≡ b → filter (is_on box) log ≡ [] → filter (is_on box) (s ∷ log) ≡ []
    by true e later = absurd (ne (h box e))
    by false e later = passed (is_on box) s log e ∙ later

module _ (turns : ℕ) (box : BoxName) where
  below : (n : ℕ) (logs : List (List Stamped)) → AreTurns turns n logs → turn_of turns box < n → filter (is_on box) (joined logs) ≡ []
  below n [] are lt = refl
  below n (log ∷ logs) (t, are) lt =
      filter_append (is_on box) log (joined logs)
      ∙ (ap (λ (zs : List Stamped). zs ++ filter (is_on box) (joined logs)) (none_here turns n box log t.here (λ e. absurd (omega arith))) ∙ below (suc n) logs are (omega arith))

  -- the entries of the turn of that number, where it is the mailbox's
  mine : (n : ℕ) (log : List Stamped) (logs : List (List Stamped)) → AreTurns turns (suc n) logs → turn_of turns box ≡ n → filter (is_on box) (joined (log ∷ logs)) ≡ filter (is_on box) log
  mine n log logs are e =
      filter_append (is_on box) log (joined logs)
      ∙ (ap (λ (zs : List Stamped). filter (is_on box) log ++ zs) (below (suc n) logs are (omega arith)) ∙ append-nil (filter (is_on box) log))

  others : (n : ℕ) (log : List Stamped) (logs : List (List Stamped)) → IsTurn turns n log → turn_of turns box ≢ n → filter (is_on box) (joined (log ∷ logs)) ≡ filter (is_on box) (joined logs)
  others n log logs t ne =
      filter_append (is_on box) log (joined logs) ∙ ap (λ (zs : List Stamped). zs ++ filter (is_on box) (joined logs)) (none_here turns n box log t.here ne)

  -- what is so of a mailbox's entries in its turn is so of them among all turns
  of_its_turn : (P : List Stamped → Type 0) → P [] → ((k : ℕ) (log : List Stamped) → IsTurn turns k log → P (filter (is_on box) log)) → (n : ℕ) (logs : List (List Stamped)) → AreTurns turns n logs → P (filter (is_on box) (joined logs))
  of_its_turn P none each n [] are = none
  of_its_turn P none each n (log ∷ logs) (t, are) = by (turn_of turns box == n) refl (of_its_turn P none each (suc n) logs are)
    where
      by : (b : Bool) → (turn_of turns box == n) ≡ b → P (filter (is_on box) (joined logs)) → P (filter (is_on box) (joined (log ∷ logs)))
      by true e later = let same : turn_of turns box ≡ n = grind (arith, nat_tests) in subst P (sym (mine n log logs are same)) (each n log t)
      by false e later = subst P (sym (others n log logs t (λ same. absurd (let h : (turn_of turns box == n) ≡ true = grind (arith, nat_tests) in let k : true ≡ false = sym h ∙ e in cc)))) later

no_starts : (turns n : ℕ) (logs : List (List Stamped)) → AreTurns turns n logs → filter is_registered (joined logs) ≡ []
no_starts turns n [] are = refl
no_starts turns n (log ∷ logs) (t, are) = filter_append is_registered log (joined logs) ∙ (ap (λ (zs : List Stamped). zs ++ filter is_registered (joined logs)) t.no_start ∙ no_starts turns (suc n) logs are)

-- ---- what they tell

module _ (h : Item → ℕ) (all : List Stamped) where
  abbrev entries_weigh : List Stamped → ℕ
  entries_weigh ss = weigh (λ (s : Stamped). weigh h (entry_items all s)) ss

  module _ (log : List Stamped) (turns n : ℕ) (same : (box : BoxName) → turn_of turns box ≡ n → filter (is_on box) all ≡ filter (is_on box) log) where
    deed_alike : (s : Stamped) → IsHere turns n s → (act : Act) → s.entry.act ≡ act → deed_in log act ≡ deed_in all act
    deed_alike s here (Take b k) e =
        let on : is_on b s ≡ true = ap (λ (a : Act). is_that b (box_in s.full a)) e ∙ same_self b in
        let shape : shape_put b k log ≡ shape_put b k all = sym (shape_among b k log) ∙ (ap (shape_put b k) (sym (same b (here b on))) ∙ shape_among b k all) in
        ap (λ (t : List Token). record { act = Take b k; taken = t }) shape
    deed_alike s here (Put b k shape) e = refl
    deed_alike s here (Empty b) e = refl
    deed_alike s here (Bound b k) e = refl
    deed_alike s here (Start k shape) e = refl
    deed_alike s here (Print shape) e = refl
    deed_alike s here (End why) e = refl
    deed_alike s here (Wait b) e = refl

    log_tells : (ss : List Stamped) → AllByRecursion (IsHere turns n) ss → weigh h (told_by log ss) ≡ entries_weigh ss
    log_tells [] here = refl
    log_tells (s ∷ ss) (this, here) =
        let r = log_tells ss here in
        let a = weigh_append h (entry_items log s) (told_by log ss) in
        let b : weigh h (entry_items log s) ≡ weigh h (entry_items all s) = ap (λ (d : Deed). h (Did s.entry.task (record { stamp = s.stamp; full = s.full; deed = d })) + weigh h (born_items s.stamp s.entry.act)) (deed_alike s this s.entry.act refl) in
        omega arith

  turns_tell : (turns n : ℕ) (logs : List (List Stamped)) → AreTurns turns n logs → ((box : BoxName) → n ≤ turn_of turns box → filter (is_on box) all ≡ filter (is_on box) (joined logs)) → turns_told h logs ≡ entries_weigh (joined logs)
  turns_tell turns n [] are same = refl
  turns_tell turns n (log ∷ logs) (t, are) same =
      let a = log_tells log turns n (λ box e. same box (omega arith) ∙ mine turns box n log logs are e) log t.here in
      let b = turns_tell turns (suc n) logs are (λ box le. same box (omega arith) ∙ others turns box n log logs t (λ e. absurd (omega arith))) in
      let c = weigh_append (λ (s : Stamped). weigh h (entry_items all s)) log (joined logs) in
      omega arith

  owns_tell : (owns : List (List Stamped)) → AllByRecursion IsOwn owns → own_told h owns ≡ entries_weigh (joined owns)
  owns_tell [] are = refl
  owns_tell (log ∷ owns) (o, are) =
      let a = o.told all h in
      let b = owns_tell owns are in
      let c = weigh_append (λ (s : Stamped). weigh h (entry_items all s)) log (joined owns) in
      omega arith

own_boxes : (box : BoxName) (owns : List (List Stamped)) → AllByRecursion IsOwn owns → AllByRecursion (λ (log : List Stamped). filter (is_on box) log ≡ []) owns
own_boxes box [] are = tt
own_boxes box (log ∷ owns) (o, are) = (o.no_box box, own_boxes box owns are)

own_starts : (owns : List (List Stamped)) → AllByRecursion IsOwn owns → AllByRecursion (λ (log : List Stamped). filter is_registered log ≡ []) owns
own_starts [] are = tt
own_starts (log ∷ owns) (o, are) = (o.no_start, own_starts owns are)

pub parts_balance : PartsBalance
parts_balance set turns register logs owns traces reg are own each same = record {
  each = each;
  same = λ h.
      let a = same h in
      let r = reg.told (joined (all_parts register logs owns)) h in
      let t = turns_tell h (joined (all_parts register logs owns)) turns 0 logs are (λ box le. box_all box) in
      let o = owns_tell h (joined (all_parts register logs owns)) owns own in
      let x = weigh_append (λ (s : Stamped). weigh h (entry_items (joined (all_parts register logs owns)) s)) register (joined (logs ++ owns)) in
      let y = ap (weigh (λ (s : Stamped). weigh h (entry_items (joined (all_parts register logs owns)) s))) (joined_append logs owns) in
      let z = weigh_append (λ (s : Stamped). weigh h (entry_items (joined (all_parts register logs owns)) s)) (joined logs) (joined owns) in
      omega arith;
  boxes_rise = λ box. subst (λ (ss : List Stamped). Rises ss) (sym (box_all box)) (of_its_turn turns box (λ ss. Rises ss) tt (λ k log t. t.rises box) 0 logs are);
  boxes = λ box. subst (λ (ss : List Stamped). MailFrom empty_mailbox ss) (sym (box_all box)) (of_its_turn turns box (λ ss. MailFrom empty_mailbox ss) tt (λ k log t. t.run box) 0 logs are);
  register_rises = subst (λ (ss : List Stamped). Rises ss) (sym starts_all) reg.rises;
  register = subst (λ (ss : List Stamped). RegisterFrom 1 ss) (sym starts_all) reg.run;
}
  where
    box_all : (box : BoxName) → filter (is_on box) (joined (all_parts register logs owns)) ≡ filter (is_on box) (joined logs)
    box_all box =
        three (is_on box) register logs owns
        ∙ (ap (λ (zs : List Stamped). zs ++ (filter (is_on box) (joined logs) ++ filter (is_on box) (joined owns))) (reg.no_box box)
        ∙ (ap (λ (zs : List Stamped). filter (is_on box) (joined logs) ++ zs) (owns_none (is_on box) owns (own_boxes box owns own)) ∙ append-nil (filter (is_on box) (joined logs))))

    starts_all : filter is_registered (joined (all_parts register logs owns)) ≡ register
    starts_all =
        three is_registered register logs owns
        ∙ (ap (λ (zs : List Stamped). filter is_registered register ++ (zs ++ filter is_registered (joined owns))) (no_starts turns 0 logs are)
        ∙ (ap (λ (zs : List Stamped). filter is_registered register ++ zs) (owns_none is_registered owns (own_starts owns own)) ∙ (append-nil (filter is_registered register) ∙ reg.all)))
