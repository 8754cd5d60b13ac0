-- A task comes, and a task goes.
use Rattle.std.proofs.Common.{◌≡◌, ℕ, ◌+◌, ◌<◌, List, [], ◌∷◌, ◌++◌, refl, sym, ap, subst, ◌∙◌, arith}
use Rattle.std.specs.Prelude.{length}
use Rattle.std.specs.List.{AllByRecursion}
use Rattle.kilim_run_turn.specs.Views.{cell_at}
use Rattle.kilim_run_turn.specs.Turns.{KeepsOthers}
use Rattle.kilim_mail_stamps.specs.Merging.{weigh}
use Rattle.kilim_mail_stamps.proofs.Weights.{weigh_append}
use Rattle.kilim_mail_ledger.specs.declared.items.Item.{Item}
use Rattle.kilim_mail_ledger.specs.Ledger.{Trace, items_of}
use Rattle.kilim_mail_notes.specs.Histories.{trace_of}
use Rattle.kilim_mail_notes.specs.Notes.{Moved, moves_in, ledger_cells, brings, owes, Accounts, Balances}
use Rattle.kilim_mail_notes.proofs.Cells.{new_cells}
use Rattle.kilim_mail_ready.specs.declared.body.Body.{Body}
use Rattle.kilim_mail_ready.specs.declared.ready.Queue.{Queue}
use Rattle.kilim_mail_ready.specs.Ready.{ready_cells, held, BodyStands, QueueStands, TakesFirst, AddsLast}
use Rattle.kilim_mail_notes.specs.declared.notes.Ledger.{Ledger}
use Rattle.kilim_mail_ledger.specs.declared.items.Item.TheVariants.{Born}
use Rattle.kilim_run_model.specs.declared.deed.Beginning.TheVariants.{Boot}
use Rattle.kilim_run_model.specs.State.{Setting}
use Rattle.kilim_run_model.specs.Lone.{Lone}
use Rattle.kilim_run_model.specs.Course.{Course}

-- what a list holds with one task in front, or behind
pub held_first : {F : Type 0} (h : Item → ℕ) (b : Body F) (old new : List (Body F)) → old ≡ b ∷ new → weigh h (held old) ≡ weigh h (held new) + weigh h (items_of (trace_of b.history))
held_first {F} h b old new e =
    let a : weigh h (held old) ≡ weigh h (items_of (trace_of b.history) ++ held new) = ap (λ (bs : List (Body F)). weigh h (held bs)) e in
    let c = weigh_append h (items_of (trace_of b.history)) (held new) in
    omega arith

held_on : {F : Type 0} (h : Item → ℕ) (b : Body F) (bs : List (Body F)) → weigh h (held (bs ++ b ∷ [])) ≡ weigh h (held bs) + weigh h (items_of (trace_of b.history))
held_on h b [] = let c = weigh_append h (items_of (trace_of b.history)) [] in omega arith
held_on h b (x ∷ bs) =
    let r = held_on h b bs in
    let a = weigh_append h (items_of (trace_of x.history)) (held (bs ++ b ∷ [])) in
    let c = weigh_append h (items_of (trace_of x.history)) (held bs) in
    omega arith

pub held_last : {F : Type 0} (h : Item → ℕ) (b : Body F) (old new : List (Body F)) → new ≡ old ++ b ∷ [] → weigh h (held new) ≡ weigh h (held old) + weigh h (items_of (trace_of b.history))
held_last {F} h b old new e = ap (λ (bs : List (Body F)). weigh h (held bs)) e ∙ held_on h b old

pub all_last : {A : Type 0} (P : A → Type 0) (xs : List A) (y : A) → AllByRecursion P xs → P y → AllByRecursion P (xs ++ y ∷ [])
all_last P [] y a p = (p, tt)
all_last P (x ∷ xs) y (h, a) p = (h, all_last P xs y a p)

-- from the queue as callers see it
pub there_now : {F : Type 0} (p q : Queue F) (seat : ℕ) → p ≡ q → seat < length (ready_cells q) → seat < p.ledger.seats
there_now {F} p q seat e lt = let h : seat < length (ready_cells p) = subst (λ (x : Queue _). seat < length (ready_cells x)) (sym e) lt in let k = new_cells p.ledger p.ledger.seats refl in omega arith

module _ {F : Type 0} (task : F → ℕ) (course : F → Course) (holds asked : Setting → F → Lone → Type 0) (Of : Setting → Type 0) where
  -- the same ledger and the same tasks
  pub same_stands : (q q' : Queue F) → q'.ledger ≡ q.ledger → q'.bodies.items ≡ q.bodies.items → QueueStands task course holds asked Of q → QueueStands task course holds asked Of q'
  same_stands q q' ledger bodies old = record {
    balances = subst (λ (l : Ledger). Balances l (held q'.bodies.items) (Born 0 0 Boot ∷ [])) (sym ledger) (subst (λ (bs : List (Body F)). Balances q.ledger (held bs) (Born 0 0 Boot ∷ [])) (sym bodies) old.balances);
    each = λ set is. subst (λ (bs : List (Body F)). AllByRecursion (BodyStands task course holds asked set) bs) (sym bodies) (old.each set is);
  }

  pub first_stands : (seat : ℕ) (q q' : Queue F) (b : Body F) → TakesFirst seat q q' b → QueueStands task course holds asked Of q → (set : Setting) → Of set → BodyStands task course holds asked set b
  first_stands seat q q' b takes old set is =
      let all : AllByRecursion (BodyStands task course holds asked set) (b ∷ q'.bodies.items) = subst (λ (bs : List (Body F)). AllByRecursion (BodyStands task course holds asked set) bs) takes.bodies (old.each set is) in
      all.0

  -- the others stay, whatever is marked
  pub others_stand : (seat : ℕ) (q q' r : Queue F) (b : Body F) → TakesFirst seat q q' b → r.ledger ≡ q'.ledger → r.bodies.items ≡ q'.bodies.items → QueueStands task course holds asked Of q → QueueStands task course holds asked Of r
  others_stand seat q q' r b takes ledger bodies old = same_stands q' r ledger bodies (record {
    balances = takes.balances (Born 0 0 Boot ∷ []) old.balances;
    each = λ set is.
        let all : AllByRecursion (BodyStands task course holds asked set) (b ∷ q'.bodies.items) = subst (λ (bs : List (Body F)). AllByRecursion (BodyStands task course holds asked set) bs) takes.bodies (old.each set is) in
        all.1;
  })

  pub last_stands : (seat : ℕ) (q q' : Queue F) (b : Body F) → AddsLast seat q q' b → QueueStands task course holds asked Of q → ((set : Setting) → Of set → BodyStands task course holds asked set b) → QueueStands task course holds asked Of q'
  last_stands seat q q' b adds old this = record {
    balances = adds.balances (Born 0 0 Boot ∷ []) old.balances;
    each = λ set is. subst (λ (bs : List (Body F)). AllByRecursion (BodyStands task course holds asked set) bs) (sym adds.bodies) (all_last (BodyStands task course holds asked set) q.bodies.items b (old.each set is) (this set is));
  }

  -- task 0 alone, which nobody brought
  pub new_stands : (q : Queue F) (b : Body F) → moves_in q.ledger ≡ [] → q.bodies.items ≡ b ∷ [] → trace_of b.history ≡ record { task = 0; stamp = 0; beginning = Boot; past = [] } → ((set : Setting) → Of set → BodyStands task course holds asked set b) →
      QueueStands task course holds asked Of q
  new_stands q b none only first this = record {
    balances = subst (λ (bs : List (Body F)). Balances q.ledger (held bs) (Born 0 0 Boot ∷ [])) (sym only) (record {
      same = λ h.
          let a : weigh h (items_of (trace_of b.history) ++ []) ≡ weigh h (Born 0 0 Boot ∷ []) = ap (λ (t : Trace). weigh h (items_of t ++ [])) first in
          let x : weigh (λ (m : Moved). owes h m.move) (moves_in q.ledger) ≡ 0 = ap (weigh (λ (m : Moved). owes h m.move)) none in
          let y : weigh (λ (m : Moved). brings h m.move) (moves_in q.ledger) ≡ 0 = ap (weigh (λ (m : Moved). brings h m.move)) none in
          omega arith;
      seats = subst (λ (ms : List Moved). AllByRecursion (λ (m : Moved). m.seat < q.ledger.seats) ms) (sym none) tt;
    });
    each = λ set is. subst (λ (bs : List (Body F)). AllByRecursion (BodyStands task course holds asked set) bs) (sym only) (this set is, tt);
  }
