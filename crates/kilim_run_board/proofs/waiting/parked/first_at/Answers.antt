use Rattle.std.proofs.Common.{◌++◌, ◌∙◌, Some, sym, ap}
use Rattle.std.specs.VecDeque.{deque_items}
use Rattle.kilim_run_board.specs.waiting.Parked.{wait_of, in_order}
use Rattle.kilim_run_board.proofs.waiting.Waiting.{if_first, if_nothing, popped, kept, nobody_named, nobody_queued}
use Rattle.kilim_run_board.proofs.waiting.parked.first_at.Goals as goal

pub returns-in-Some-clause-some : goal.returns-in-Some-clause-some
returns-in-Some-clause-some g c = if_first c.first_of.result _ _ _ c.first_of.ensures (λ f first rest.
    popped deque_items c.args.key c.args.queues.now.entries c.in-Some.queue.now c.first_of.new.queue f rest (sym c.in-Some.ensures.value) first
    ∙ ap (λ es. Some (record { waits = wait_of c.args.key; fiber = f }, in_order deque_items es ++ rest)) (sym (c.get_mut.follows.holds c.first_of.new.queue).0))

pub returns-in-Some-clause-none : goal.returns-in-Some-clause-none
returns-in-Some-clause-none g c = if_nothing c.first_of.result _ _ _ c.first_of.ensures (λ none.
    nobody_queued deque_items c.args.key c.args.queues.now.entries c.in-Some.queue.now c.in-Some.ensures.ordered (sym c.in-Some.ensures.value) none.0)

pub returns-in-Some-clause-same : goal.returns-in-Some-clause-same
returns-in-Some-clause-same g c = if_nothing c.first_of.result _ _ _ c.first_of.ensures (λ none.
    ap (in_order deque_items) (c.get_mut.follows.holds c.first_of.new.queue).0
    ∙ kept deque_items c.args.key c.args.queues.now.entries c.in-Some.queue.now c.first_of.new.queue (sym c.in-Some.ensures.value) (none.1 ∙ sym none.0))

pub returns-in-None-clause-none : goal.returns-in-None-clause-none
returns-in-None-clause-none g c = nobody_named deque_items c.args.key c.args.queues.now.entries (sym c.in-None.ensures.value)
