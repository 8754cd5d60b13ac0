use Rattle.std.proofs.Common.{◌∙◌, sym, ap}
use Rattle.kilim_run_board.specs.waiting.Parked.{waiter_index}
use Rattle.kilim_run_board.proofs.waiting.WaitLists.{taken_first, woken_none}
use Rattle.kilim_run_board.proofs.waiting.parked.first_apart.Goals as goal

pub returns-in-Some-clause-some : goal.returns-in-Some-clause-some
returns-in-Some-clause-some g c = taken_first c.args.apart.now.items c.remove.new.self.items c.args.waits c.in-Some.i c.remove.result (ap (λ ws. waiter_index ws c.args.waits) (sym c.as_slice.ensures.value) ∙ (sym c.first_waiting.ensures.index ∙ c.in-Some.is)) c.remove.ensures.value c.remove.ensures.items

pub returns-in-None-clause-none : goal.returns-in-None-clause-none
returns-in-None-clause-none g c = woken_none c.args.apart.now.items c.args.waits (ap (λ ws. waiter_index ws c.args.waits) (sym c.as_slice.ensures.value) ∙ (sym c.first_waiting.ensures.index ∙ c.in-None.is))
