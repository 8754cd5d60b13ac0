use Rattle.kilim_run_state.proofs.Arena.{now_filled, last_is_free, now_added, grown_or_not}
use Rattle.kilim_run_state.proofs.heap.Heap.add.Goals as goal

pub fill-requires : goal.fill-requires
fill-requires c = (last_is_free _ _ _ _ _ c.self.invariant c.in-Some.ensures.items).0

pub invariant_of-self : goal.invariant_of-self
invariant_of-self c = now_filled _ _ _ _ _ _ _ _ c.self.invariant c.in-Some.ensures.items c.fill.ensures c.pop.ensures.capacity

pub returns-in-Some-clause-ok : goal.returns-in-Some-clause-ok
returns-in-Some-clause-ok c = now_added _ _ _ _ _ c.self.view_is (last_is_free _ _ _ _ _ c.self.invariant c.in-Some.ensures.items) c.fill.ensures

pub returns-in-None-clause-ok : goal.returns-in-None-clause-ok
returns-in-None-clause-ok c = grown_or_not _ _ _ _ _ c.self.view_is c.add_at_end.ensures.ok
