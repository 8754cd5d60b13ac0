use Rattle.kilim_class_attributes.specs.declared.attribute.Attribute.{Attribute}
use Rattle.kilim_link_spec.specs.Linked.{constant_by}
use Rattle.kilim_link_members.proofs.Firsts.{found_first, found_later, none_found}
use Rattle.kilim_link_members.proofs.fields.first_constant.Goals as goal

pub returns-in-Ok-Some : goal.returns-in-Ok-Some
returns-in-Ok-Some c = found_first (λ (a : Attribute). constant_by c.args.pool.now a.info) c.args.attributes.now c.loop-attribute.attribute-index c.attribute-item.result _ c.in-Ok-Some.field-0 c.loop-attribute-test.true c.attribute-item.is c.in-Ok-Some.ensures c.loop-attribute.invariant c.in-Ok-Some.value c.in-Ok-Some.field-0-is

pub loop-attribute-preserved : goal.loop-attribute-preserved
loop-attribute-preserved c = found_later (λ (a : Attribute). constant_by c.args.pool.now a.info) c.args.attributes.now c.loop-attribute.attribute-index c.attribute-item.result _ c.in-Ok-None.field-0 c.loop-attribute-test.true c.attribute-item.is c.in-Ok-None.ensures c.loop-attribute.invariant c.in-Ok-None.field-0-is

pub returns : goal.returns
returns c = none_found (λ (a : Attribute). constant_by c.args.pool.now a.info) c.args.attributes.now c.loop-attribute.attribute-index c.loop-attribute-test.false c.loop-attribute.invariant
