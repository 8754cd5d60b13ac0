use Rattle.std.proofs.Common.{◌≡◌, ◌++◌, take}
use Rattle.std.specs.List.{flat_map}
use Rattle.kilim_class_attributes.specs.Attributes.{attribute_text}
use Rattle.kilim_class_attributes.proofs.writing.push_attributes.Given as goal

abbrev pub invariant-loop-attribute : goal.invariant-loop-attribute
invariant-loop-attribute l = l.into.items ≡ l.fn.into.items ++ flat_map attribute_text (take l.attribute-index l.attributes)
