use Rattle.std.proofs.Common.{◌≡◌, ◌++◌, map, take}
use Rattle.kilim_link_file_faults.specs.Shapes.{shape_of}
use Rattle.kilim_link_file_faults.proofs.types.push_each.Given as goal

abbrev pub invariant-loop-found : goal.invariant-loop-found
invariant-loop-found l = l.into.items ≡ l.fn.into.items ++ map shape_of (take l.found-index l.types)
