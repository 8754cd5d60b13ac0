use Rattle.std.proofs.Common.{vec_len}
use Rattle.kilim_run_state.specs.Machine.{Objects}
use Rattle.kilim_run_trees.specs.Steps.{Blanked, WasFree}
use Rattle.kilim_run_trees.proofs.put.free_all.Given as goal

abbrev pub invariant-loop-at : goal.invariant-loop-at
invariant-loop-at l = record {
  was : WasFree l.heap l.places.items;
  each : (base : Objects) → Blanked base l.initial.heap l.initial.places.items → Blanked base l.heap l.places.items;
}

abbrev pub decreases-loop-at : goal.decreases-loop-at
decreases-loop-at l = vec_len l.places
