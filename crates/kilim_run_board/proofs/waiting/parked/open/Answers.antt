use Rattle.std.proofs.Common.{◌∙◌, ap}
use Rattle.std.specs.VecDeque.{deque_items}
use Rattle.kilim_run_board.specs.waiting.Parked.{in_order}
use Rattle.kilim_run_board.proofs.waiting.Waiting.{opened}
use Rattle.kilim_run_board.proofs.waiting.parked.open.Goals as goal

pub returns : goal.returns
returns g c =
    ap (in_order deque_items) c.in-Ok-insert.ensures.entries
    ∙ opened deque_items c.args.key c.args.queues.now.entries c.reserve.new.self (c.reserve.ensures.items ∙ c.new-queue.ensures.items) c.requires
