-- What is left of a run, added up.
use Rattle.std.proofs.Common.{◌≡◌, ℕ, ◌+◌, List, [], ◌∷◌, ◌++◌, map, refl, arith}
use Rattle.kilim_run_model.specs.declared.deed.Beginning.TheVariants.{Boot}
use Rattle.kilim_mail_stamps.specs.Merging.{weigh}
use Rattle.kilim_mail_stamps.proofs.Weights.{weigh_append}
use Rattle.kilim_mail_ledger.specs.declared.items.Item.{Item}
use Rattle.kilim_mail_ledger.specs.declared.items.Item.TheVariants.{Born}
use Rattle.kilim_mail_ledger.specs.Ledger.{Trace, items_of}
use Rattle.kilim_mail_notes.specs.declared.notes.Ledger.{Ledger}
use Rattle.kilim_mail_notes.specs.Sums.{Kept, held_weigh, made_weigh, hands_weigh, own_weigh}
use Rattle.kilim_mail_notes.proofs.Sums.{all_is_closed}
use Rattle.kilim_mail_parts.specs.Parts.{turns_told, own_told}
use Rattle.kilim_mail_parts.proofs.Parts.{parts_balance}
use Rattle.kilim_mail_register.specs.declared.register.Starts.{Starts}
use Rattle.kilim_mail_register.specs.Register.{told_by}
use Rattle.kilim_mail_worker.specs.Own.{traces_items}
use Rattle.kilim_mail_worker.specs.Closed.{ClosedTurn, ClosedWorker, turn_log, worker_log, turn_kept, all_kept, worker_left, waiting_traces, over_traces, all_traces, AreClosed, ClosedBalance}

module _ (h : Item → ℕ) where
  abbrev trace_weight : Trace → ℕ
  trace_weight trace = weigh h (items_of trace)

  traces_weigh : (ts : List Trace) → weigh h (traces_items ts) ≡ weigh trace_weight ts
  traces_weigh [] = refl
  traces_weigh (t ∷ ts) = let r = traces_weigh ts in let a = weigh_append h (items_of t) (traces_items ts) in omega arith

  held_is : (turns : List ClosedTurn) (ks : List Kept) → held_weigh h (map turn_kept turns ++ ks) ≡ weigh trace_weight (waiting_traces turns) + held_weigh h ks
  held_is [] ks = omega arith
  held_is (t ∷ turns) ks =
      let r = held_is turns ks in
      let a = traces_weigh t.waiting in
      let b = weigh_append trace_weight t.waiting (waiting_traces turns) in
      omega arith

  made_is : (turns : List ClosedTurn) (ks : List Kept) → made_weigh h (map turn_kept turns ++ ks) ≡ turns_told h (map turn_log turns) + made_weigh h ks
  made_is [] ks = omega arith
  made_is (t ∷ turns) ks = let r = made_is turns ks in omega arith

  hands_are : (workers : List ClosedWorker) → hands_weigh h (map worker_left workers) ≡ weigh trace_weight (over_traces workers)
  hands_are [] = refl
  hands_are (w ∷ workers) =
      let r = hands_are workers in
      let a = traces_weigh w.over in
      let b = weigh_append trace_weight w.over (over_traces workers) in
      omega arith

  owns_are : (workers : List ClosedWorker) → own_weigh h (map worker_left workers) ≡ own_told h (map worker_log workers)
  owns_are [] = refl
  owns_are (w ∷ workers) = let r = owns_are workers in omega arith

  told : (turns : List ClosedTurn) (register : Starts) (ready : Ledger) (workers : List ClosedWorker) → AreClosed turns register ready workers →
      weigh trace_weight (all_traces turns workers) ≡ h (Born 0 0 Boot) + (weigh h (told_by [] register.log.items) + (turns_told h (map turn_log turns) + own_told h (map worker_log workers)))
  told turns register ready workers c =
      let rest : List Kept = record { ledger = register.ledger; held = []; made = told_by [] register.log.items } ∷ record { ledger = ready; held = []; made = Born 0 0 Boot ∷ [] } ∷ [] in
      let all = all_is_closed (all_kept turns register ready) (map worker_left workers) c.balance c.even c.columns h in
      let a = held_is turns rest in
      let b = made_is turns rest in
      let d = hands_are workers in
      let e = owns_are workers in
      let f = weigh_append trace_weight (waiting_traces turns) (over_traces workers) in
      omega arith

pub closed_balance : ClosedBalance
closed_balance set turns register ready workers c each =
    parts_balance set c.turns-are.0 register.log.items (map turn_log turns) (map worker_log workers) (all_traces turns workers) c.register-is c.turns-are.1 c.owns each (λ h. told h turns register ready workers c)
