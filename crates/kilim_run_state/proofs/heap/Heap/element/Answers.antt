use Rattle.kilim_run_state.proofs.Fields.{element_within}
use Rattle.kilim_run_state.proofs.heap.Heap.element.Goals as goal

pub get-requires : goal.get-requires
get-requires c = element_within c.args.self.now c.args.at c.args.index c.object.result.now c.object.ensures c.requires.element
