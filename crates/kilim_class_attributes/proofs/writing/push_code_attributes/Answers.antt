use Rattle.std.proofs.Common.{◌∙◌, ◌++◌, ap}
use Rattle.std.proofs.lemmas.List.{take_all}
use Rattle.std.specs.List.{flat_map}
use Rattle.kilim_lemmas.proofs.Lists.{of_item}
use Rattle.kilim_class_attributes.specs.Codes.{code_attribute_text, CodeAttributeIsSized}
use Rattle.kilim_class_attributes.proofs.Writes.{behind}
use Rattle.kilim_class_attributes.proofs.writing.push_code_attributes.Goals as goal

pub loop-attribute-preserved : goal.loop-attribute-preserved
loop-attribute-preserved c =
    behind code_attribute_text c.args.into.now.items c.loop-attribute.into.items c.push_code_attribute.new.into.items c.args.attributes.now c.loop-attribute.attribute-index c.attribute-item.result _
    c.loop-attribute-test.true c.attribute-item.is c.loop-attribute.invariant c.in-Ok.ensures

pub returns : goal.returns
returns c = c.loop-attribute.invariant ∙ ap (λ xs. c.args.into.now.items ++ flat_map code_attribute_text xs) (take_all c.loop-attribute.attribute-index c.args.attributes.now c.loop-attribute-test.false)

pub push_code_attribute-requires : goal.push_code_attribute-requires
push_code_attribute-requires c = of_item CodeAttributeIsSized c.args.attributes.now c.loop-attribute.attribute-index c.attribute-item.result _ c.attribute-item.is c.requires c.loop-attribute-test.true
