use Rattle.std.proofs.Common.{◌≡◌, ◌≤◌, length}
use Rattle.std.specs.Vec.{vec_capacity}
use Rattle.kilim_run_trees.specs.Steps.{Blanked}
use Rattle.kilim_run_trees.proofs.put.new_places.Given as goal

abbrev pub invariant-loop-k : goal.invariant-loop-k
invariant-loop-k l = record {
  blanked : Blanked l.initial.heap l.heap l.places.items;
  counted : length l.places.items ≡ l.k;
  room : l.n ≤ vec_capacity l.places;
}
