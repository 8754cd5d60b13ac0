use Rattle.std.proofs.Common.{◌≡◌, ◌++◌, drop}
use Rattle.kilim_class_attributes.specs.parts.Annotations.{parts_text}
use Rattle.kilim_class_attributes.proofs.parts.annotation_writing.push_parts.Given as goal

abbrev pub invariant-loop-part : goal.invariant-loop-part
invariant-loop-part l = l.into.items ++ parts_text (drop l.part-index l.part-items) ≡ l.fn.into.items ++ parts_text l.part-items
