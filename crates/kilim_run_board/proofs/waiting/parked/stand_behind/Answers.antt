use Rattle.std.proofs.Common.{◌∙◌, sym, ap, refl, subst}
use Rattle.std.specs.VecDeque.{deque_items}
use Rattle.kilim_run_board.specs.waiting.Parked.{wait_of, in_order, StandsBehind}
use Rattle.kilim_run_board.proofs.waiting.Waiting.{kept, pushed}
use Rattle.kilim_run_board.proofs.waiting.parked.stand_behind.Goals as goal

pub returns-in-Ok-clause-stands : goal.returns-in-Ok-clause-stands
returns-in-Ok-clause-stands g c =
    subst (StandsBehind (record { waits = wait_of c.args.key; fiber = c.args.fiber }) (in_order deque_items c.args.queues.now.entries)) (ap (in_order deque_items) (sym (c.get_mut.follows.holds c.push_back.new.self).0))
    (pushed deque_items c.args.key c.args.queues.now.entries c.in-Some.queue.now c.push_back.new.self c.args.fiber c.in-Some.ensures.ordered (sym c.in-Some.ensures.value) c.in-Ok.ensures.items)

pub returns-else-len-capacity-clause-same : goal.returns-else-len-capacity-clause-same
returns-else-len-capacity-clause-same g c =
    ap (in_order deque_items) (c.get_mut.follows.holds c.in-Some.queue.now).0
    ∙ kept deque_items c.args.key c.args.queues.now.entries c.in-Some.queue.now c.in-Some.queue.now (sym c.in-Some.ensures.value) refl
