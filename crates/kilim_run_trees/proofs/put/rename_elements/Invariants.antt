use Rattle.std.proofs.Common.{◌≡◌, [], length}
use Rattle.kilim_run_trees.specs.Walk.{renamed_value}
use Rattle.kilim_run_trees.specs.Moved.{at_places}
use Rattle.kilim_run_trees.proofs.Numbering.{Numbering, no_refs}
use Rattle.kilim_run_trees.proofs.put.rename_elements.Given as goal

abbrev pub invariant-loop-k : goal.invariant-loop-k
invariant-loop-k l = record {
  numbering : Numbering no_refs (λ v w. renamed_value (at_places l.places) v ≡ w) l.initial.values.items l.values.items [] [] l.k;
  same_length : length l.values.items ≡ length l.initial.values.items;
}
