-- One entry more of the register, and all of them.
use Rattle.std.proofs.Common.{◌≡◌, ℕ, zero, suc, ◌+◌, ◌<◌, ◌≤◌, Bool, true, false, List, [], ◌∷◌, ◌++◌, Option, Some, None, refl, sym, ap, subst, ◌∙◌, arith}
use Rattle.std.specs.Prelude.{filter, length, if◌then◌else◌}
use Rattle.std.specs.List.{AllByRecursion}
use Rattle.kilim_program.specs.declared.names.BoxName.{BoxName}
use Rattle.kilim_run_state.specs.declared.cause.EndCause.{EndCause}
use Rattle.kilim_run_state.specs.declared.cause.EndCause.TheVariants as cause
use Rattle.kilim_run_state.specs.declared.value.Token.{Token}
use Rattle.kilim_run_journal.specs.declared.entry.Act.{Act}
use Rattle.kilim_run_journal.specs.declared.entry.Act.TheVariants.{Put, Take, Empty, Bound, Start, Print, End, Wait}
use Rattle.kilim_run_model.specs.Turn.{task_limit}
use Rattle.kilim_run_model.specs.Course.{plain}
use Rattle.kilim_run_model.specs.Moving.{is_tasks}
use Rattle.kilim_mail_stamps.specs.declared.stamped.Stamped.{Stamped}
use Rattle.kilim_mail_stamps.specs.Stamps.{is_full_end, box_in, is_that, is_on, is_starting, is_registered, Rises, Registers, RegisterFrom, deed_in}
use Rattle.kilim_mail_stamps.specs.Merging.{weigh}
use Rattle.kilim_mail_stamps.proofs.Order.{kept, passed}
use Rattle.kilim_mail_stamps.proofs.Weights.{weigh_append}
use Rattle.kilim_mail_ledger.specs.declared.items.Item.{Item}
use Rattle.kilim_mail_ledger.specs.declared.items.Item.TheVariants.{Born, Did}
use Rattle.kilim_run_model.specs.declared.deed.Deed.{Deed}
use Rattle.kilim_mail_ledger.specs.Ledger.{Trace, items_of, did_items, born_items, entry_items}
use Rattle.kilim_mail_ledger.specs.declared.items.Dated.{Dated}
use Rattle.kilim_mail_ledger.specs.Mailboxes.{UpTo}
use Rattle.kilim_mail_ledger.proofs.Mailboxes.{rises_more, upto_more}
use Rattle.kilim_mail_ledger.specs.Goings.{longer}
use Rattle.kilim_run_model.specs.declared.deed.Beginning.TheVariants.{Begun}
use Rattle.kilim_mail_notes.specs.declared.notes.Ledger.{Ledger}
use Rattle.kilim_mail_notes.specs.Notes.{made_items, Balances}
use Rattle.kilim_mail_register.specs.declared.register.Starts.{Starts}
use Rattle.kilim_mail_register.specs.Register.{register_cells, RegistersTo, told_by, RegisterStands, IsRegister, RegistersAreRuns}
use Rattle.kilim_lemmas.proofs.Lists.{map_append}
use Rattle.kilim_mail_notes.proofs.Cells.{new_cells}

abbrev pub entry_as : ℕ → ℕ → Act → Stamped
entry_as stamp t act = record { stamp = stamp; full = None; entry = record { task = t; act = act } }

abbrev pub dated_as : ℕ → Act → Dated
dated_as stamp act = record { stamp = stamp; full = None; deed = plain act }

-- ---- one entry more

goes_on : (n : ℕ) (act : Act) (P Q : ℕ → Type 0) → ((k : ℕ) → P k → Q k) → Registers n act P → Registers n act Q
goes_on n (Start t shape) P Q f (a, b, p) = (a, b, f (suc n) p)
goes_on n (End why) P Q f (a, p) = (a, f n p)
goes_on n (Put b k shape) P Q f r = absurd r
goes_on n (Take b k) P Q f r = absurd r
goes_on n (Empty b) P Q f r = absurd r
goes_on n (Bound b k) P Q f r = absurd r
goes_on n (Print shape) P Q f r = absurd r
goes_on n (Wait b) P Q f r = absurd r

registers_more : (n mid last : ℕ) (ss : List Stamped) (s : Stamped) → RegistersTo n ss mid → Registers mid s.entry.act (λ k. k ≡ last) → RegistersTo n (ss ++ s ∷ []) last
registers_more n mid last [] s e r = subst (λ (m : ℕ). Registers m s.entry.act (λ k. k ≡ last)) (sym e) r
registers_more n mid last (x ∷ ss) s e r = goes_on n x.entry.act (λ k. RegistersTo k ss mid) (λ k. RegistersTo k (ss ++ s ∷ []) last) (λ k q. registers_more k mid last ss s q r) e

all_more : {A : Type 0} (P : A → Type 0) (xs : List A) (y : A) → AllByRecursion P xs → P y → AllByRecursion P (xs ++ y ∷ [])
all_more P [] y a p = (p, tt)
all_more P (x ∷ xs) y (h, a) p = (h, all_more P xs y a p)

told_more : (h : Item → ℕ) (all ss : List Stamped) (s : Stamped) → weigh h (told_by all (ss ++ s ∷ [])) ≡ weigh h (told_by all ss) + weigh h (entry_items all s)
told_more h all [] s = let e = weigh_append h (entry_items all s) [] in omega arith
told_more h all (x ∷ ss) s =
    let r = told_more h all ss s in
    let a = weigh_append h (entry_items all x) (told_by all (ss ++ s ∷ [])) in
    let b = weigh_append h (entry_items all x) (told_by all ss) in
    omega arith

module _ (r r' : Starts) (s : Stamped) (is : r'.log.items ≡ r.log.items ++ s ∷ []) (clock : r'.clock ≡ s.stamp) (later : r.clock < s.stamp) (old : RegisterStands r) where
  pub stands_on : is_registered s ≡ true → Registers r.tasks s.entry.act (λ k. k ≡ r'.tasks) → r'.tasks ≤ task_limit → (((h : Item → ℕ) → weigh h (told_by [] r'.log.items) ≡ weigh h (told_by [] r.log.items) + weigh h (entry_items [] s)) → Balances r'.ledger [] (told_by [] r'.log.items)) → RegisterStands r'
  stands_on this run few balances = record {
    only = subst (λ (ss : List Stamped). AllByRecursion (λ (x : Stamped). is_registered x ≡ true) ss) (sym is) (all_more (λ (x : Stamped). is_registered x ≡ true) r.log.items s old.only this);
    rises = subst (λ (ss : List Stamped). Rises ss) (sym is) (rises_more r.clock r.log.items s old.rises old.upto later);
    upto = subst (λ (n : ℕ). UpTo n r'.log.items) (sym clock) (subst (λ (ss : List Stamped). UpTo s.stamp ss) (sym is) (upto_more r.clock r.log.items s old.upto later));
    run = subst (λ (ss : List Stamped). RegistersTo 1 ss r'.tasks) (sym is) (registers_more 1 r.tasks r'.tasks r.log.items s old.run run);
    few = few;
    balances = balances (λ h. ap (λ (ss : List Stamped). weigh h (told_by [] ss)) is ∙ told_more h [] r.log.items s);
  }

-- a history of one deed more, by weights
pub longer_weighs : (h : Item → ℕ) (old new : Trace) (d : Dated) → new ≡ longer old d → weigh h (items_of new) ≡ weigh h (items_of old) + weigh h (did_items old.task (d ∷ []))
longer_weighs h old new d e =
    let a : weigh h (did_items old.task (old.past ++ d ∷ [])) ≡ weigh h (did_items old.task old.past ++ did_items old.task (d ∷ [])) = ap (weigh h) (map_append (λ (x : Dated). Did old.task x) old.past (d ∷ [])) in
    let b = weigh_append h (did_items old.task old.past) (did_items old.task (d ∷ [])) in
    let c : weigh h (items_of new) ≡ h (Born old.task old.stamp old.beginning) + weigh h (did_items old.task (old.past ++ d ∷ [])) = ap (λ (t : Trace). weigh h (items_of t)) e in
    omega arith

-- ---- all entries

all_kept : (p : Stamped → Bool) (ss : List Stamped) → AllByRecursion (λ (s : Stamped). p s ≡ true) ss → filter p ss ≡ ss
all_kept p [] a = refl
all_kept p (s ∷ ss) (h, a) = kept p s ss h ∙ ap (λ (xs : List Stamped). s ∷ xs) (all_kept p ss a)

no_tasks : (why : EndCause) → is_tasks why ≡ true → is_full_end why ≡ false
no_tasks cause.Tasks e = refl
no_tasks cause.Done e = absurd (cc)
no_tasks cause.Spent e = absurd (cc)
no_tasks cause.Depth e = absurd (cc)
no_tasks cause.Null e = absurd (cc)
no_tasks cause.Index e = absurd (cc)
no_tasks cause.Size e = absurd (cc)
no_tasks cause.Large e = absurd (cc)
no_tasks cause.Cast e = absurd (cc)
no_tasks cause.Store e = absurd (cc)
no_tasks cause.Zero e = absurd (cc)
no_tasks cause.Boxes e = absurd (cc)
no_tasks cause.Full e = absurd (cc)
no_tasks cause.Thrown e = absurd (cc)

boxless : (full : Option BoxName) (act : Act) → is_starting act ≡ true → box_in full act ≡ None
boxless full (Start n shape) e = refl
boxless full (End why) e = ap (λ (b : Bool). if b then full else None) (no_tasks why e)
boxless full (Put b n shape) e = absurd (cc)
boxless full (Take b n) e = absurd (cc)
boxless full (Empty b) e = absurd (cc)
boxless full (Bound b n) e = absurd (cc)
boxless full (Print shape) e = absurd (cc)
boxless full (Wait b) e = absurd (cc)

none_on : (box : BoxName) (ss : List Stamped) → AllByRecursion (λ (s : Stamped). is_registered s ≡ true) ss → filter (is_on box) ss ≡ []
none_on box [] a = refl
none_on box (s ∷ ss) (h, a) = passed (is_on box) s ss (ap (is_that box) (boxless s.full s.entry.act h)) ∙ none_on box ss a

from_to : (n last : ℕ) (ss : List Stamped) → RegistersTo n ss last → RegisterFrom n ss
from_to n last [] r = tt
from_to n last (s ∷ ss) r = goes_on n s.entry.act (λ k. RegistersTo k ss last) (λ k. RegisterFrom k ss) (λ k q. from_to k last ss q) r

deed_alike : (all others : List Stamped) (act : Act) → is_starting act ≡ true → deed_in all act ≡ deed_in others act
deed_alike all others (Start n shape) e = refl
deed_alike all others (End why) e = refl
deed_alike all others (Put b n shape) e = absurd (cc)
deed_alike all others (Take b n) e = absurd (cc)
deed_alike all others (Empty b) e = absurd (cc)
deed_alike all others (Bound b n) e = absurd (cc)
deed_alike all others (Print shape) e = absurd (cc)
deed_alike all others (Wait b) e = absurd (cc)

told_alike : (all : List Stamped) (h : Item → ℕ) (ss : List Stamped) → AllByRecursion (λ (s : Stamped). is_registered s ≡ true) ss → weigh h (told_by [] ss) ≡ weigh (λ (s : Stamped). weigh h (entry_items all s)) ss
told_alike all h [] a = refl
told_alike all h (s ∷ ss) (e, a) =
    let r = told_alike all h ss a in
    let x = weigh_append h (entry_items [] s) (told_by [] ss) in
    let y : weigh h (entry_items [] s) ≡ weigh h (entry_items all s) = ap (λ (d : Deed). h (Did s.entry.task (record { stamp = s.stamp; full = s.full; deed = d })) + weigh h (born_items s.stamp s.entry.act)) (deed_alike [] all s.entry.act e) in
    omega arith

pub registers_are_runs : RegistersAreRuns
registers_are_runs r stands = record {
  all = all_kept is_registered r.log.items stands.only;
  rises = stands.rises;
  run = from_to 1 r.tasks r.log.items stands.run;
  no_box = λ box. none_on box r.log.items stands.only;
  told = λ all h. told_alike all h r.log.items stands.only;
}

-- ---- what `note` ensures, at a start and at an end for want of tasks

module _ (r r' : Starts) (old : RegisterStands r) (stamp t : ℕ) (act : Act) (later : r.clock < stamp) (log : r'.log.items ≡ r.log.items ++ entry_as stamp t act ∷ []) (clock : r'.clock ≡ stamp)
    (balances : (held made made' : List Item) → Balances r.ledger held made → ((h : Item → ℕ) → weigh h made' ≡ weigh h made + weigh h (made_items t (dated_as stamp act))) → Balances r'.ledger held made')
    (same : (h : Item → ℕ) → weigh h (entry_items [] (entry_as stamp t act)) ≡ weigh h (made_items t (dated_as stamp act))) where
  pub noted_stands : is_starting act ≡ true → Registers r.tasks act (λ k. k ≡ r'.tasks) → r'.tasks ≤ task_limit → RegisterStands r'
  noted_stands this run few = stands_on r r' (entry_as stamp t act) log clock later old this run few
      (λ e. balances [] (told_by [] r.log.items) (told_by [] r'.log.items) old.balances (λ h. let x = e h in let y = same h in omega arith))

-- from the register as callers see it
pub there_now : (p q : Starts) (seat : ℕ) → p ≡ q → seat < length (register_cells q) → seat < p.ledger.seats
there_now p q seat e lt = let h : seat < length (register_cells p) = subst (λ (x : Starts). seat < length (register_cells x)) (sym e) lt in let k = new_cells p.ledger p.ledger.seats refl in omega arith

-- the same entries, with more room for others
pub reserved_stands : (r r' : Starts) → r'.log.items ≡ r.log.items → r'.clock ≡ r.clock → r'.tasks ≡ r.tasks → r'.ledger ≡ r.ledger → RegisterStands r → RegisterStands r'
reserved_stands r r' items clock tasks ledger old = record {
  only = subst (λ (ss : List Stamped). AllByRecursion (λ (x : Stamped). is_registered x ≡ true) ss) (sym items) old.only;
  rises = subst (λ (ss : List Stamped). Rises ss) (sym items) old.rises;
  upto = subst (λ (n : ℕ). UpTo n r'.log.items) (sym clock) (subst (λ (ss : List Stamped). UpTo r.clock ss) (sym items) old.upto);
  run = subst (λ (n : ℕ). RegistersTo 1 r'.log.items n) (sym tasks) (subst (λ (ss : List Stamped). RegistersTo 1 ss r.tasks) (sym items) old.run);
  few = subst (λ (n : ℕ). n ≤ task_limit) (sym tasks) old.few;
  balances = subst (λ (l : Ledger). Balances l [] (told_by [] r'.log.items)) (sym ledger) (subst (λ (ss : List Stamped). Balances r.ledger [] (told_by [] ss)) (sym items) old.balances);
}

-- ---- what is in hand

-- the task's history is one start longer, and a new one begins
pub begun_weighs : (h : Item → ℕ) (old new born : Trace) (n stamp : ℕ) (shape shape' : List Token) → new ≡ longer old (dated_as stamp (Start n shape')) → born ≡ record { task = n; stamp = stamp; beginning = Begun shape; past = [] } → shape' ≡ shape →
    weigh h (items_of new ++ items_of born) ≡ weigh h (items_of old) + weigh h (made_items old.task (dated_as stamp (Start n shape')))
begun_weighs h old new born n stamp shape shape' goes begins same =
    let a = weigh_append h (items_of new) (items_of born) in
    let b = longer_weighs h old new (dated_as stamp (Start n shape')) goes in
    let c : weigh h (items_of born) ≡ h (Born n stamp (Begun shape)) + 0 = ap (λ (t : Trace). weigh h (items_of t)) begins in
    let d : h (Born n stamp (Begun shape')) ≡ h (Born n stamp (Begun shape)) = ap (λ (s : List Token). h (Born n stamp (Begun s))) same in
    omega arith

pub ended_weighs : (h : Item → ℕ) (old new : Trace) (stamp : ℕ) → new ≡ longer old (dated_as stamp (End cause.Tasks)) → weigh h (items_of new ++ []) ≡ weigh h (items_of old) + weigh h (made_items old.task (dated_as stamp (End cause.Tasks)))
ended_weighs h old new stamp goes =
    let a = weigh_append h (items_of new) [] in
    let b = longer_weighs h old new (dated_as stamp (End cause.Tasks)) goes in
    omega arith
