use Rattle.std.proofs.Common.{◌≡◌, ◌++◌, drop}
use Rattle.kilim_class_attributes.specs.parts.Frames.{types_text}
use Rattle.kilim_class_attributes.proofs.parts.frame_writing.push_types.Given as goal

abbrev pub invariant-loop-item : goal.invariant-loop-item
invariant-loop-item l = l.into.items ++ types_text (drop l.item-index l.types) ≡ l.fn.into.items ++ types_text l.types
