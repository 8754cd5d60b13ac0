use Rattle.std.proofs.Common.{arith}
use Rattle.kilim_run_state.proofs.Arena.{there_in, found_in, emptied_arena, now_emptied, now_removed}
use Rattle.kilim_run_state.proofs.heap.Heap.remove.Goals as goal

pub exchange-object-requires : goal.exchange-object-requires
exchange-object-requires c = there_in _ _ _ c.self.view_is c.requires

pub push_reserved-requires : goal.push_reserved-requires
push_reserved-requires c = let h = (emptied_arena _ _ _ _ _ c.self.invariant c.exchange-object.ensures.object).1 in omega (arith, h, c.self.inside.free.ok.0)

pub invariant_of-self : goal.invariant_of-self
invariant_of-self c = now_emptied _ _ _ _ _ _ _ _ c.self.invariant c.exchange-object.ensures.object c.exchange-object.ensures.places c.push_reserved.ensures.items c.push_reserved.ensures.capacity

pub returns-clause-object : goal.returns-clause-object
returns-clause-object c = found_in _ _ _ _ c.self.view_is c.exchange-object.ensures.object

pub returns-clause-left : goal.returns-clause-left
returns-clause-left c = now_removed _ _ _ _ _ c.self.view_is c.exchange-object.ensures.object c.exchange-object.ensures.places
