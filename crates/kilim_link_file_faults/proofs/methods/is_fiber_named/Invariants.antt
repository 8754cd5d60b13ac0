use Rattle.std.proofs.Common.{◌≡◌, drop}
use Rattle.std.specs.List.{list_any}
use Rattle.kilim_link_spec.specs.LeftOut.{is_fiber}
use Rattle.kilim_link_file_faults.proofs.methods.is_fiber_named.Given as goal

abbrev pub invariant-loop-name : goal.invariant-loop-name
invariant-loop-name l = list_any is_fiber (drop l.name-index l.names) ≡ list_any is_fiber l.names
