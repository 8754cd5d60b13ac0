-- One entry more of a mailbox turn.
use Rattle.std.proofs.Common.{◌≡◌, ℕ, zero, suc, ◌+◌, ◌<◌, ◌≤◌, Bool, true, false, cond, List, [], ◌∷◌, ◌++◌, Option, Some, None, length, refl, sym, ap, subst, ◌∙◌, arith}
use Rattle.std.specs.Prelude.{filter, if◌then◌else◌, ◌==◌, ◌&&◌, not}
use Rattle.std.specs.List.{AllByRecursion}
use Rattle.kilim_program.specs.declared.names.BoxName.{BoxName}
use Rattle.kilim_run_state.specs.declared.value.Token.{Token}
use Rattle.kilim_run_journal.specs.declared.entry.Act.{Act}
use Rattle.kilim_run_journal.specs.declared.entry.Act.TheVariants.{Put, Take, Empty, Bound, Start, Print, End, Wait}
use Rattle.kilim_run_model.specs.State.{Mailbox, empty_mailbox, with_message, with_queue, bounded, is_full, same_box}
use Rattle.kilim_run_model.specs.declared.deed.Deed.{Deed}
use Rattle.kilim_run_model.specs.Course.{plain}
use Rattle.kilim_mail_stamps.specs.declared.stamped.Stamped.{Stamped}
use Rattle.kilim_mail_stamps.specs.Stamps.{is_starting, is_on, mail_taken, mail_empty, mail_after, put_shape, shape_put, deed_in}
use Rattle.kilim_mail_stamps.specs.Leading.{RunsTo}
use Rattle.kilim_mail_stamps.specs.Merging.{weigh}
use Rattle.kilim_mail_stamps.proofs.Weights.{weigh_append}
use Rattle.kilim_mail_stamps.proofs.Steps.{some_is}
use Rattle.kilim_mail_ledger.specs.declared.items.Dated.{Dated}
use Rattle.kilim_mail_ledger.specs.declared.items.Item.{Item}
use Rattle.kilim_mail_ledger.specs.declared.items.Item.TheVariants.{Did}
use Rattle.kilim_mail_ledger.specs.Ledger.{born_items, entry_items}
use Rattle.kilim_mail_ledger.specs.Mailboxes.{Box, AllStand, HaveShapes}
use Rattle.kilim_mail_ledger.proofs.Mailboxes.{waiting_are_known}
use Rattle.kilim_mail_ledger.proofs.Shapes.{items_of_log_stay}
use Rattle.kilim_mail_notes.specs.Notes.{made_items}
use Rattle.kilim_mail_register.specs.Register.{told_by}

-- ---- what the entries tell

pub told_is : (h : Item → ℕ) (all ss : List Stamped) → weigh h (told_by all ss) ≡ weigh (λ (s : Stamped). weigh h (entry_items all s)) ss
told_is h all [] = refl
told_is h all (s ∷ ss) = let r = told_is h all ss in let a = weigh_append h (entry_items all s) (told_by all ss) in omega arith

told_more : (h : Item → ℕ) (all ss : List Stamped) (s : Stamped) → weigh h (told_by all (ss ++ s ∷ [])) ≡ weigh h (told_by all ss) + weigh h (entry_items all s)
told_more h all [] s = let e = weigh_append h (entry_items all s) [] in omega arith
told_more h all (x ∷ ss) s =
    let r = told_more h all ss s in
    let a = weigh_append h (entry_items all x) (told_by all (ss ++ s ∷ [])) in
    let b = weigh_append h (entry_items all x) (told_by all ss) in
    omega arith

none_born : (act : Act) (stamp : ℕ) → is_starting act ≡ false → born_items stamp act ≡ []
none_born (Start n shape) stamp e = absurd (cc)
none_born (Put b n shape) stamp e = refl
none_born (Take b n) stamp e = refl
none_born (Empty b) stamp e = refl
none_born (Bound b n) stamp e = refl
none_born (Print shape) stamp e = refl
none_born (End why) stamp e = refl
none_born (Wait b) stamp e = refl

-- what an entry makes, where it starts nothing
pub made_weighs : (h : Item → ℕ) (t : ℕ) (d : Dated) → is_starting d.deed.act ≡ false → weigh h (made_items t d) ≡ h (Did t d)
made_weighs h t d e = let a = ap (λ (is : List Item). weigh h (Did t d ∷ is)) (none_born d.deed.act d.stamp e) in omega arith

module _ (log : List Stamped) (boxes : BoxName → Box) (stand : AllStand log boxes) (t : ℕ) (d : Dated) (act : Act) (same : deed_in (log ++ record { stamp = d.stamp; full = d.full; entry = record { task = t; act = act } } ∷ []) act ≡ d.deed) (is : d.deed.act ≡ act) (plainly : is_starting act ≡ false) where
  abbrev entry : Stamped
  entry = record { stamp = d.stamp; full = d.full; entry = record { task = t; act = act } }

  pub told_then : (h : Item → ℕ) → weigh h (told_by (log ++ entry ∷ []) (log ++ entry ∷ [])) ≡ weigh h (told_by log log) + weigh h (made_items t d)
  told_then h =
      let a = told_more h (log ++ entry ∷ []) log entry in
      let b = told_is h (log ++ entry ∷ []) log in
      let c = items_of_log_stay h log (entry ∷ []) boxes stand in
      let e = told_is h log log in
      let f : weigh h (entry_items (log ++ entry ∷ []) entry) ≡ h (Did t d) + weigh h (born_items d.stamp act) = ap (λ (x : Deed). h (Did t (record { stamp = d.stamp; full = d.full; deed = x })) + weigh h (born_items d.stamp act)) same in
      let g : weigh h (born_items d.stamp act) ≡ 0 = ap (weigh h) (none_born act d.stamp plainly) in
      let i = made_weighs h t d (ap is_starting is ∙ plainly) in
      omega arith

-- ---- the shape of what is taken

pushed_shape : (box : BoxName) (n : ℕ) (log : List Stamped) (s : Stamped) → shape_put box n (s ∷ []) ≡ [] → shape_put box n (log ++ s ∷ []) ≡ shape_put box n log
pushed_shape box n [] s e = e
pushed_shape box n (x ∷ log) s e = ap (λ (later : List Token). put_shape box n x.entry.act later) (pushed_shape box n log s e)

pub taken_deed : (log : List Stamped) (boxes : BoxName → Box) (stand : AllStand log boxes) (box : BoxName) (n stamp t : ℕ) (full : Option BoxName) (shape : List Token) (rest : List (ℕ × List Token)) → (boxes box).mail.queue ≡ (n, shape) ∷ rest →
    deed_in (log ++ record { stamp = stamp; full = full; entry = record { task = t; act = Take box n } } ∷ []) (Take box n) ≡ record { act = Take box n; taken = shape }
taken_deed log boxes stand box n stamp t full shape rest first =
    let known : HaveShapes log box ((n, shape) ∷ rest) = subst (λ (qs : List (ℕ × List Token)). HaveShapes log box qs) first (waiting_are_known log boxes stand box) in
    ap (λ (x : List Token). record { act = Take box n; taken = x }) (pushed_shape box n log (record { stamp = stamp; full = full; entry = record { task = t; act = Take box n } }) refl ∙ known.0)

-- ---- no more puts than entries

puts_after : (m next : Mailbox (List Token)) (act : Act) → mail_after m act ≡ Some next → next.puts ≤ suc m.puts
puts_after m next (Put b n shape) e = by (n == m.puts && not (is_full m)) e
  where
    by : (x : Bool) → (if x then Some (with_message m shape) else None) ≡ Some next → next.puts ≤ suc m.puts
    by true f = let g = ap (λ (y : Mailbox (List Token)). y.puts) (some_is (with_message m shape) next f) in omega arith
    by false f = absurd (cc)
puts_after m next (Take b n) e = by m.queue e
  where
    at : (q : ℕ × List Token) (qs : List (ℕ × List Token)) (x : Bool) → (if x then Some (with_queue m qs) else None) ≡ Some next → next.puts ≤ suc m.puts
    at q qs true f = let g = ap (λ (y : Mailbox (List Token)). y.puts) (some_is (with_queue m qs) next f) in omega arith
    at q qs false f = absurd (cc)

    by : (qs : List (ℕ × List Token)) → mail_taken m n qs ≡ Some next → next.puts ≤ suc m.puts
    by [] f = absurd (cc)
    by (q ∷ qs) f = at q qs (q.0 == n) f
puts_after m next (Empty b) e = by m.queue e
  where
    by : (qs : List (ℕ × List Token)) → mail_empty m qs ≡ Some next → next.puts ≤ suc m.puts
    by [] f = let g = ap (λ (y : Mailbox (List Token)). y.puts) (some_is m next f) in omega arith
    by (q ∷ qs) f = absurd (cc)
puts_after m next (Bound b n) e = let g = ap (λ (y : Mailbox (List Token)). y.puts) (some_is (bounded m n) next e) in omega arith
puts_after m next (End why) e = by (is_full m) e
  where
    by : (x : Bool) → (if x then Some m else None) ≡ Some next → next.puts ≤ suc m.puts
    by true f = let g = ap (λ (y : Mailbox (List Token)). y.puts) (some_is m next f) in omega arith
    by false f = absurd (cc)
puts_after m next (Start n shape) e = absurd (cc)
puts_after m next (Print shape) e = absurd (cc)
puts_after m next (Wait b) e = absurd (cc)

puts_run : (m last : Mailbox (List Token)) (ss : List Stamped) → RunsTo m ss last → last.puts ≤ m.puts + length ss
puts_run m last [] r = let e = ap (λ (y : Mailbox (List Token)). y.puts) r in omega arith
puts_run m last (s ∷ ss) (next, h, r) = let a = puts_after m next s.entry.act h in let b = puts_run next last ss r in omega arith

fewer : (p : Stamped → Bool) (ss : List Stamped) → length (filter p ss) ≤ length ss
fewer p [] = omega arith
fewer p (s ∷ ss) = by (p s) (fewer p ss)
  where
    by : (b : Bool) → length (filter p ss) ≤ length ss → length (cond b (s ∷ filter p ss) (filter p ss)) ≤ suc (length ss)
    by true le = omega arith
    by false le = omega arith

pub puts_counted : (log : List Stamped) (boxes : BoxName → Box) → AllStand log boxes → (box : BoxName) → (boxes box).mail.puts ≤ length log
puts_counted log boxes stand box = let a = puts_run empty_mailbox (boxes box).mail (filter (is_on box) log) (stand box).run in let b = fewer (is_on box) log in omega arith
