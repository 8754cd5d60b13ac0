use Rattle.std.proofs.Common.{◌∙◌, sym, ap}
use Rattle.std.specs.VecDeque.{deque_items}
use Rattle.kilim_run_board.specs.waiting.Parked.{in_order}
use Rattle.kilim_run_board.proofs.waiting.Waiting.{kept}
use Rattle.kilim_run_board.proofs.waiting.parked.make_places.Goals as goal

pub returns-in-Err : goal.returns-in-Err
returns-in-Err g c =
    ap (in_order deque_items) (c.get_mut.follows.holds c.reserve.new.self).0
    ∙ kept deque_items c.args.key c.args.queues.now.entries c.in-Some.queue.now c.reserve.new.self (sym c.in-Some.ensures.value) c.reserve.ensures.items

pub returns-in-Ok : goal.returns-in-Ok
returns-in-Ok g c =
    ap (in_order deque_items) (c.get_mut.follows.holds c.reserve.new.self).0
    ∙ kept deque_items c.args.key c.args.queues.now.entries c.in-Some.queue.now c.reserve.new.self (sym c.in-Some.ensures.value) c.reserve.ensures.items
