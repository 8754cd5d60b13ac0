use Rattle.std.specs.List.{flat_map}
use Rattle.std.proofs.Common.{◌∙◌, ap, ◌++◌}
use Rattle.kilim_class_attributes.specs.declared.attribute.CodeAttribute.{CodeAttribute}
use Rattle.kilim_link_spec.specs.Frames.{table_in}
use Rattle.kilim_link_members.proofs.frames.Loops.{joined_in, all_in}
use Rattle.kilim_link_members.proofs.frames.frames.tables_in.Goals as goal

pub loop-attribute-preserved : goal.loop-attribute-preserved
loop-attribute-preserved c = joined_in (λ (a : CodeAttribute). table_in a.info) c.loop-attribute.frames c.push_frames.new.into c.as_slice-attribute-items.result.now c.args.code.now.attributes c.loop-attribute.attribute-index c.attribute-item.result c.as_slice-attribute-items.ensures c.loop-attribute-test.true c.attribute-item.is c.loop-attribute.invariant (c.in-Ok.ensures ∙ ap (λ fs. c.loop-attribute.frames ++ fs) c.table_in.ensures)

pub returns : goal.returns
returns c = all_in (flat_map (λ (a : CodeAttribute). table_in a.info)) c.loop-attribute.frames c.as_slice-attribute-items.result.now c.args.code.now.attributes c.loop-attribute.attribute-index c.as_slice-attribute-items.ensures c.loop-attribute-test.false c.loop-attribute.invariant
