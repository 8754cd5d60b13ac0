use Rattle.kilim_run_state.proofs.Arena.{there_in, found_in, still_arena, now_replaced}
use Rattle.kilim_run_state.proofs.heap.Heap.replace.Goals as goal

pub exchange-requires : goal.exchange-requires
exchange-requires c = there_in _ _ _ c.self.view_is c.requires

pub invariant_of-self : goal.invariant_of-self
invariant_of-self c = still_arena _ _ _ _ _ _ _ c.self.invariant c.exchange.ensures.object c.exchange.ensures.places

pub returns-clause-object : goal.returns-clause-object
returns-clause-object c = found_in _ _ _ _ c.self.view_is c.exchange.ensures.object

pub returns-clause-left : goal.returns-clause-left
returns-clause-left c = now_replaced _ _ _ _ _ _ c.self.view_is c.exchange.ensures.object c.exchange.ensures.places
