use Rattle.std.proofs.Common.{◌≡◌, [], length}
use Rattle.kilim_run_trees.specs.Walk.{renamed_value}
use Rattle.kilim_run_trees.specs.Moved.{at_places}
use Rattle.kilim_run_trees.proofs.Numbering.{Numbering, no_refs}
use Rattle.kilim_run_trees.proofs.put.rename_fields.Given as goal

abbrev pub invariant-loop-k : goal.invariant-loop-k
invariant-loop-k l = record {
  numbering : Numbering no_refs (λ v w. (v.0, renamed_value (at_places l.places) v.1) ≡ w) l.initial.fields.items l.fields.items [] [] l.k;
  same_length : length l.fields.items ≡ length l.initial.fields.items;
}
