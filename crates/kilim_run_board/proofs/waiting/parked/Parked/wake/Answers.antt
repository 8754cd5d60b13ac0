use Rattle.std.proofs.Common.{◌≡◌, ◌++◌, ◌∙◌, Some, sym, ap, subst}
use Rattle.std.specs.VecDeque.{deque_items}
use Rattle.kilim_run_model.specs.declared.waits.Waits.{Waits}
use Rattle.kilim_run_board.specs.waiting.Parked.{in_order, wait_of, NobodyAt}
use Rattle.kilim_run_board.specs.waiting.Parked.{woken}
use Rattle.kilim_run_board.proofs.waiting.Waiting.{if_some, if_none, wait_back, woken_apart, woken_nobody}
use Rattle.kilim_run_board.proofs.waiting.parked.Parked.wake.Goals as goal

pub returns-in-Some-clause-some : goal.returns-in-Some-clause-some
returns-in-Some-clause-some g c =
    let same : wait_of c.key_of.result ≡ c.args.waits = ap wait_of c.key_of.ensures ∙ wait_back c.args.waits in
    ap (λ v. woken c.args.waits v.items) (sym c.self.view_is)
    ∙ subst (λ (v : Waits). woken v (in_order deque_items c.self.inside.by_wait.entries ++ c.self.inside.apart.items) ≡ Some (record { waits = v; fiber = c.in-Some.fiber }, in_order deque_items c.first_at.new.queues.entries ++ c.self.inside.apart.items)) same (c.in-Some.ensures.some c.self.inside.apart.items)

pub returns-in-None-clause-some : goal.returns-in-None-clause-some
returns-in-None-clause-some g c = if_some c.first_apart.result _ _ c.first_apart.ensures.some (λ w first.
    let same : wait_of c.key_of.result ≡ c.args.waits = ap wait_of c.key_of.ensures ∙ wait_back c.args.waits in
    ap (λ v. woken c.args.waits v.items) (sym c.self.view_is)
    ∙ woken_apart c.args.waits (in_order deque_items c.self.inside.by_wait.entries) c.self.inside.apart.items c.first_apart.new.apart.items w (subst (λ (v : Waits). NobodyAt v (in_order deque_items c.self.inside.by_wait.entries)) same c.in-None.ensures.none) first
    ∙ ap (λ l. Some (w, l ++ c.first_apart.new.apart.items)) (sym c.in-None.ensures.same))

pub returns-in-None-clause-none : goal.returns-in-None-clause-none
returns-in-None-clause-none g c = if_none c.first_apart.result _ _ c.first_apart.ensures.none (λ none.
    let same : wait_of c.key_of.result ≡ c.args.waits = ap wait_of c.key_of.ensures ∙ wait_back c.args.waits in
    ap (λ v. woken c.args.waits v.items) (sym c.self.view_is)
    ∙ woken_nobody c.args.waits (in_order deque_items c.self.inside.by_wait.entries) c.self.inside.apart.items (subst (λ (v : Waits). NobodyAt v (in_order deque_items c.self.inside.by_wait.entries)) same c.in-None.ensures.none) none)
