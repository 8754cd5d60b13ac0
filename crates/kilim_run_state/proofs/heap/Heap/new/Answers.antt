use Rattle.kilim_run_state.proofs.Arena.{new_arena, no_places}
use Rattle.kilim_run_state.proofs.heap.Heap.new.Goals as goal

pub invariant_of-result : goal.invariant_of-result
invariant_of-result c = new_arena _ _ _ c.new.ensures.items c.new-2.ensures.items

pub returns : goal.returns
returns c = no_places _ c.new.ensures.items
