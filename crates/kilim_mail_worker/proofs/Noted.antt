-- What a worker notes and buries by itself.
use Rattle.std.proofs.Common.{◌≡◌, ℕ, ◌+◌, Bool, true, false, List, [], ◌∷◌, ◌++◌, Some, None, refl, sym, ap, subst, ◌∙◌, arith}
use Rattle.std.specs.Prelude.{filter, if◌then◌else◌}
use Rattle.std.specs.List.{AllByRecursion}
use Rattle.kilim_program.specs.declared.names.BoxName.{BoxName}
use Rattle.kilim_run_state.specs.declared.cause.EndCause.{EndCause}
use Rattle.kilim_run_state.specs.declared.value.Token.{Token}
use Rattle.kilim_run_journal.specs.declared.entry.Act.{Act}
use Rattle.kilim_run_journal.specs.declared.entry.Act.TheVariants.{Put, Take, Empty, Bound, Start, Print, End, Wait}
use Rattle.kilim_run_model.specs.State.{Setting}
use Rattle.kilim_run_model.specs.Lone.{Next, Goes, Puts, PutWaits, Bounds, Gets, Probes, Starts, Prints, Ends, Stands}
use Rattle.kilim_run_model.specs.Course.{plain, next_action}
use Rattle.kilim_run_model.specs.Moving.{is_tasks}
use Rattle.kilim_run_model.specs.declared.deed.Deed.{Deed}
use Rattle.kilim_run_board.specs.fibers.Wishes.{Wish, ToEnd, wish_of}
use Rattle.kilim_run_board.proofs.Deeds.{end_is}
use Rattle.kilim_mail_stamps.specs.declared.stamped.Stamped.{Stamped}
use Rattle.kilim_mail_stamps.specs.Stamps.{is_that, is_full_end, is_on, is_starting, is_registered, deed_in}
use Rattle.kilim_mail_stamps.specs.Merging.{weigh}
use Rattle.kilim_mail_stamps.proofs.Order.{passed}
use Rattle.kilim_mail_stamps.proofs.Steps.{same_self}
use Rattle.kilim_mail_stamps.proofs.Weights.{weigh_append}
use Rattle.kilim_mail_ledger.specs.declared.items.Dated.{Dated}
use Rattle.kilim_mail_ledger.specs.declared.items.Item.{Item}
use Rattle.kilim_mail_ledger.specs.declared.items.Item.TheVariants.{Did}
use Rattle.kilim_mail_ledger.specs.Ledger.{Trace, items_of, born_items, entry_items}
use Rattle.kilim_mail_ledger.proofs.Goings.{histories_end}
use Rattle.kilim_mail_ledger.proofs.Mailboxes.{filter_append}
use Rattle.kilim_mail_notes.specs.Histories.{trace_of}
use Rattle.kilim_mail_parts.specs.Parts.{IsOwn}
use Rattle.kilim_mail_register.specs.Register.{told_by}
use Rattle.kilim_mail_register.proofs.Registers.{longer_weighs}
use Rattle.kilim_mail_ready.specs.declared.body.Body.{Body}
use Rattle.kilim_mail_ready.proofs.Queues.{all_last}
use Rattle.kilim_mail_group.proofs.Entries.{told_is}
use Rattle.kilim_mail_worker.specs.declared.own.Own.{Own}
use Rattle.kilim_mail_worker.specs.Own.{buried, traces_items, IsOver, own_items, BodyEnds, IsAlone, NotesAlone, MadeAlone}

-- ---- acts that need no turn

deed_alone : (all : List Stamped) (a : Act) → IsAlone a → deed_in all a ≡ plain a
deed_alone all (Take b n) al = absurd (let h : true ≡ false = sym (same_self b) ∙ al.no_box b in cc)
deed_alone all (Put b n shape) al = refl
deed_alone all (Empty b) al = refl
deed_alone all (Bound b n) al = refl
deed_alone all (Start n shape) al = refl
deed_alone all (Print shape) al = refl
deed_alone all (End why) al = refl
deed_alone all (Wait b) al = refl

born_alone : (a : Act) (stamp : ℕ) → is_starting a ≡ false → born_items stamp a ≡ []
born_alone (Start n shape) stamp e = absurd (cc)
born_alone (Put b n shape) stamp e = refl
born_alone (Take b n) stamp e = refl
born_alone (Empty b) stamp e = refl
born_alone (Bound b n) stamp e = refl
born_alone (Print shape) stamp e = refl
born_alone (End why) stamp e = refl
born_alone (Wait b) stamp e = refl

pub print_alone : (shape : List Token) → IsAlone (Print shape)
print_alone shape = record { no_box = λ box. refl; no_start = refl }

no_end_box : (box : BoxName) (b : Bool) → is_that box (if b then None else None) ≡ false
no_end_box box true = refl
no_end_box box false = refl

pub end_alone : (why : EndCause) → is_tasks why ≡ false → IsAlone (End why)
end_alone why e = record { no_box = λ box. no_end_box box (is_full_end why); no_start = e }

-- a thread ends by itself for no want of tasks
abbrev for_tasks : Wish → Bool
for_tasks (ToEnd why) = is_tasks why
for_tasks w = false

ends_next : (n : Next) (why : EndCause) → wish_of n ≡ Some (ToEnd why) → is_tasks why ≡ false
ends_next (Ends cause l) why e = let r = end_is cause (ToEnd why) e in ap for_tasks r.0 ∙ r.1
ends_next (Goes l) why e = absurd (cc)
ends_next (Puts b r s l) why e = absurd (cc)
ends_next (PutWaits b r s l) why e = absurd (cc)
ends_next (Bounds b most l) why e = absurd (cc)
ends_next (Gets b l) why e = absurd (cc)
ends_next (Probes b l) why e = absurd (cc)
ends_next (Starts r s l) why e = absurd (cc)
ends_next (Prints s l) why e = absurd (cc)
ends_next Stands why e = absurd (cc)

-- ---- an entry more

module _ {F : Type 0} (o o' : Own) (old new : Body F) (a : Act) (n : NotesAlone o o' old new a) (al : IsAlone a) where
  abbrev task : ℕ
  task = old.history.task

  abbrev dated : Dated
  dated = record { stamp = n.stamp; full = None; deed = plain a }

  abbrev entry : Stamped
  entry = record { stamp = n.stamp; full = None; entry = record { task = old.history.task; act = a } }

  entry_weighs : (h : Item → ℕ) (all : List Stamped) → weigh h (entry_items all entry) ≡ h (Did task dated)
  entry_weighs h all =
      let d = ap (λ (d : Deed). h (Did task (record { stamp = n.stamp; full = None; deed = d }))) (deed_alone all a al) in
      let b = ap (λ (is : List Item). weigh h is) (born_alone a n.stamp al.no_start) in
      omega arith

  log_weighs : (h : Item → ℕ) (all : List Stamped) → weigh (λ (s : Stamped). weigh h (entry_items all s)) o'.log.items ≡ weigh (λ (s : Stamped). weigh h (entry_items all s)) o.log.items + h (Did task dated)
  log_weighs h all =
      let e = ap (λ (ss : List Stamped). weigh (λ (s : Stamped). weigh h (entry_items all s)) ss) n.log in
      let s = weigh_append (λ (s : Stamped). weigh h (entry_items all s)) o.log.items (entry ∷ []) in
      let w = entry_weighs h all in
      omega arith

  pub own_weighs : (h : Item → ℕ) → weigh h (own_items o') ≡ weigh h (own_items o) + h (Did task dated)
  own_weighs h = let a = told_is h [] o'.log.items in let b = told_is h [] o.log.items in let c = log_weighs h [] in omega arith

  none_more : (p : Stamped → Bool) → p entry ≡ false → filter p o.log.items ≡ [] → filter p o'.log.items ≡ []
  none_more p e none = ap (filter p) n.log ∙ (filter_append p o.log.items (entry ∷ []) ∙ (ap (λ (ss : List Stamped). ss ++ filter p (entry ∷ [])) none ∙ passed p entry [] e))

  own_more : IsOwn o.log.items → IsOwn o'.log.items
  own_more own = record {
    no_box = λ box. none_more (is_on box) (al.no_box box) (own.no_box box);
    no_start = none_more is_registered al.no_start own.no_start;
    told = λ all h. let a = own_weighs h in let b = log_weighs h all in let c = own.told all h in omega arith;
  }

  trace_weighs : (h : Item → ℕ) → weigh h (items_of (trace_of new.history)) ≡ weigh h (items_of (trace_of old.history)) + h (Did task dated)
  trace_weighs h = let a = longer_weighs h (trace_of old.history) (trace_of new.history) dated n.history in omega arith

  module _ (Of : Setting → Type 0) where
    -- a task that goes on
    pub made_on : MadeAlone Of o o' (items_of (trace_of old.history)) (items_of (trace_of new.history))
    made_on = record {
      stands = λ st. record { log = own_more st.log; over = λ set is. subst (λ (ts : List Trace). AllByRecursion (IsOver set) ts) (sym n.graves) (st.over set is) };
      weighs = λ h.
          let a = trace_weighs h in
          let b = own_weighs h in
          let c = ap (λ (ts : List Trace). weigh h (traces_items ts)) n.graves in
          omega arith;
    }

-- the task ends by itself
module _ {F : Type 0} (set : Setting) (o o' : Own) (old new : Body F) (why : EndCause) (ends : BodyEnds set old why) where
  pub ends_alone : IsAlone (End why)
  ends_alone = end_alone why (ends_next (next_action set old.history.task ends.wishes.lone) why ends.wishes.next)

  pub ended_over : NotesAlone o o' old new (End why) → IsOver set (trace_of new.history)
  ended_over n =
      subst (λ (t : Trace). IsOver set t) (sym n.history)
      (histories_end set (trace_of old.history) (ToEnd why) (record { stamp = n.stamp; full = None; deed = plain (End why) }) ends.trace ends.wishes refl (let c = ends.clock in let l = n.later in omega arith))

-- ---- a task more that has ended

traces_more : (h : Item → ℕ) (ts : List Trace) (t : Trace) → weigh h (traces_items (ts ++ t ∷ [])) ≡ weigh h (traces_items ts) + weigh h (items_of t)
traces_more h [] t = let a = weigh_append h (items_of t) [] in omega arith
traces_more h (x ∷ ts) t =
    let r = traces_more h ts t in
    let a = weigh_append h (items_of x) (traces_items (ts ++ t ∷ [])) in
    let b = weigh_append h (items_of x) (traces_items ts) in
    omega arith

module _ (Of : Setting → Type 0) (o o' : Own) (t : Trace) (log : o'.log.items ≡ o.log.items) (more : buried o' ≡ buried o ++ t ∷ []) (over : (set : Setting) → Of set → IsOver set t) where
  pub made_buried : MadeAlone Of o o' (items_of t) []
  made_buried = record {
    stands = λ st. record {
      log = subst (λ (ss : List Stamped). IsOwn ss) (sym log) st.log;
      over = λ set is. subst (λ (ts : List Trace). AllByRecursion (IsOver set) ts) (sym more) (all_last (IsOver set) (buried o) t (st.over set is) (over set is));
    };
    weighs = λ h.
        let a = ap (λ (ts : List Trace). weigh h (traces_items ts)) more in
        let b = traces_more h (buried o) t in
        let c = ap (λ (ss : List Stamped). weigh h (told_by [] ss)) log in
        omega arith;
  }

pub made_then : (Of : Setting → Type 0) (o p q : Own) (x y z : List Item) → MadeAlone Of o p x y → MadeAlone Of p q y z → MadeAlone Of o q x z
made_then Of o p q x y z f g = record { stands = λ st. g.stands (f.stands st); weighs = λ h. let a = f.weighs h in let b = g.weighs h in omega arith }
