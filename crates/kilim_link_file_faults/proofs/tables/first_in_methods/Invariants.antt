use Rattle.std.proofs.Common.{◌≡◌, drop}
use Rattle.std.specs.List.{flat_map}
use Rattle.kilim_link_spec.specs.Linked.{first_of}
use Rattle.kilim_link_spec.specs.Faults.{row_faults}
use Rattle.kilim_link_file_faults.proofs.tables.first_in_methods.Given as goal

abbrev pub invariant-loop-method : goal.invariant-loop-method
invariant-loop-method l = first_of (flat_map (row_faults l.file) (drop l.method-index l.methods)) ≡ first_of (flat_map (row_faults l.file) l.methods)
