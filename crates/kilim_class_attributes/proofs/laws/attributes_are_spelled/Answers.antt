use Rattle.kilim_class_attributes.proofs.AttributeFormat.{attributes_format}
use Rattle.kilim_class_attributes.proofs.laws.attributes_are_spelled.Goals as goal

pub returns : goal.returns
returns c = attributes_format c.parts_are_spelled.ensures
