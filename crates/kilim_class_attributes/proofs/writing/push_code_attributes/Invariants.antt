use Rattle.std.proofs.Common.{◌≡◌, ◌++◌, take}
use Rattle.std.specs.List.{flat_map}
use Rattle.kilim_class_attributes.specs.Codes.{code_attribute_text}
use Rattle.kilim_class_attributes.proofs.writing.push_code_attributes.Given as goal

abbrev pub invariant-loop-attribute : goal.invariant-loop-attribute
invariant-loop-attribute l = l.into.items ≡ l.fn.into.items ++ flat_map code_attribute_text (take l.attribute-index l.attributes)
