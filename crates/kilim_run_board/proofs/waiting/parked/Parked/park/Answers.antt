use Rattle.std.proofs.Common.{◌≡◌, ◌∙◌, sym, ap, refl, subst, arith, length, List, [], ◌∷◌, ◌++◌, append_assoc}
use Rattle.std.proofs.lemmas.List.{append-nil}
use Rattle.std.specs.VecDeque.{deque_items}
use Rattle.kilim_run_board.specs.declared.waiting.parked.Waiter.{Waiter}
use Rattle.kilim_run_model.specs.declared.waits.Waits.{Waits}
use Rattle.kilim_run_board.specs.waiting.Parked.{in_order, wait_of, StandsBehind, NobodyAt}
use Rattle.kilim_run_board.proofs.waiting.Waiting.{wait_back}
use Rattle.kilim_run_board.proofs.waiting.parked.Parked.park.Goals as goal

-- nobody stands apart
all_behind : {F : Type 0} (w : Waiter F) (all ws ws' apart : List (Waiter F)) → all ≡ ws ++ apart → apart ≡ [] → StandsBehind w ws ws' → StandsBehind w all (ws' ++ apart)
all_behind w all ws ws' apart e none s = record {
  before = s.before;
  after = s.after ++ apart;
  was = e ∙ (ap (λ l. l ++ apart) s.was ∙ append_assoc s.before s.after apart);
  is = ap (λ l. l ++ apart) s.is ∙ append_assoc s.before (w ∷ s.after) apart;
  last = subst (λ l. NobodyAt w.waits (s.after ++ l)) (sym none) (subst (NobodyAt w.waits) (sym (append-nil s.after)) s.last);
}

empty : {A : Type 0} (l : List A) → length l ≡ 0 → l ≡ []
empty [] none = refl
empty (x ∷ l) none = absurd (cc)

pub returns-in-None-clause-items : goal.returns-in-None-clause-items
returns-in-None-clause-items g c =
    let none : c.self.inside.apart.items ≡ [] = empty c.self.inside.apart.items (grind (arith, c.is_empty.ensures, c.if-is_empty.true, c.self.inside.apart.ok.0)) in
    let same : wait_of c.key_of.result ≡ c.args.waits = ap wait_of c.key_of.ensures ∙ wait_back c.args.waits in
    all_behind (record { waits = c.args.waits; fiber = c.args.fiber }) c.args.self.now.items (in_order deque_items c.self.inside.by_wait.entries) _ c.self.inside.apart.items (ap (λ v. v.items) (sym c.self.view_is)) none
    (subst (λ (v : Waits). StandsBehind (record { waits = v; fiber = c.args.fiber }) (in_order deque_items c.self.inside.by_wait.entries) (in_order deque_items c.stand_behind.new.queues.entries)) same c.in-None.ensures.stands)
