use Rattle.std.proofs.Common.{◌++◌, ◌∙◌, sym, ap, append_assoc}
use Rattle.std.specs.VecDeque.{deque_items}
use Rattle.kilim_run_board.specs.waiting.Parked.{at_wait, in_order, wait_of}
use Rattle.kilim_run_board.proofs.waiting.parked.list_all.Goals as goal

pub loop-key-preserved : goal.loop-key-preserved
loop-key-preserved g c =
    ap (λ ws. ws ++ in_order deque_items c.next.new.self) (c.in-Ok.ensures ∙ ap (λ v. c.loop-key.waiters.items ++ at_wait v c.in-Some.queue.items) c.wait_of.ensures)
    ∙ (append_assoc c.loop-key.waiters.items (at_wait (wait_of c.in-Some.key) c.in-Some.queue.items) (in_order deque_items c.next.new.self)
    ∙ (ap (λ es. c.loop-key.waiters.items ++ in_order deque_items es) (sym c.in-Some.ensures.steps) ∙ c.loop-key.invariant))
