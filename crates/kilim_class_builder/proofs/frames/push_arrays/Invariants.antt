use Rattle.std.proofs.Common.{◌≡◌, ◌++◌, drop}
use Rattle.std.specs.List.{flat_map}
use Rattle.kilim_class_builder.specs.Frames.{array_names}
use Rattle.kilim_class_builder.proofs.frames.push_arrays.Given as goal

abbrev pub invariant-loop-of : goal.invariant-loop-of
invariant-loop-of l = l.names.items ++ flat_map (array_names l.pool) (drop l.of-index l.types) ≡ l.fn.names.items ++ flat_map (array_names l.pool) l.types
