use Rattle.std.proofs.Common.{◌≡◌, ◌++◌, drop, map}
use Rattle.kilim_class_builder.specs.Frames.{slot_type}
use Rattle.kilim_class_builder.proofs.frames.slot_types.Given as goal

abbrev pub invariant-loop-of : goal.invariant-loop-of
invariant-loop-of l = l.all.items ++ map (slot_type l.pool) (drop l.of-index l.types) ≡ map (slot_type l.pool) l.types
