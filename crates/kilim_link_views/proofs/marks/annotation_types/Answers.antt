use Rattle.std.proofs.Common.{map, ◌∙◌, ap}
use Rattle.kilim_class_attributes.specs.declared.attribute.Attribute.{Attribute}
use Rattle.kilim_class_file.specs.Parts.{text_of}
use Rattle.kilim_link_spec.specs.Annotations.{types_on_member}
use Rattle.kilim_link_spec.specs.World.{annotation_parts}
use Rattle.kilim_link_views.proofs.Loops.{joined_in, taken_in}
use Rattle.std.specs.List.{flat_map}
use Rattle.kilim_link_views.proofs.marks.annotation_types.Goals as goal

pub loop-attribute-preserved : goal.loop-attribute-preserved
loop-attribute-preserved c = joined_in (λ (a : Attribute). map (text_of c.args.pool.now) (types_on_member (annotation_parts a.info))) c.loop-attribute.types c.push_types_of.new.types c.as_slice-attribute-items.result.now c.args.member.now.attributes c.loop-attribute.attribute-index c.attribute-item.result c.as_slice-attribute-items.ensures c.loop-attribute-test.true c.attribute-item.is c.loop-attribute.invariant c.in-Ok.ensures

pub returns : goal.returns
returns c = c.loop-attribute.invariant ∙ ap (flat_map (λ (a : Attribute). map (text_of c.args.pool.now) (types_on_member (annotation_parts a.info)))) (taken_in c.as_slice-attribute-items.result.now c.args.member.now.attributes c.loop-attribute.attribute-index c.as_slice-attribute-items.ensures c.loop-attribute-test.false)
