use Rattle.std.specs.List.{flat_map}
use Rattle.kilim_class_attributes.specs.declared.attribute.CodeAttribute.{CodeAttribute}
use Rattle.kilim_link_spec.specs.Frames.{table_in}
use Rattle.kilim_link_spec.specs.Mentions.{mentions_of_slot, slots_of_frame}
use Rattle.kilim_link_mentions.proofs.Joined.{pushed_twice, all_pushed_twice}
use Rattle.kilim_link_mentions.proofs.frames.push_tables.Goals as goal

pub loop-attribute-preserved : goal.loop-attribute-preserved
loop-attribute-preserved c = pushed_twice (λ f. flat_map (mentions_of_slot c.args.pool.now) (slots_of_frame f)) (λ (a : CodeAttribute). table_in a.info) c.args.into.now c.loop-attribute.into c.push_table.new.into c.args.attributes.now c.loop-attribute.attribute-index c.attribute-item.result c.loop-attribute-test.true c.attribute-item.is c.loop-attribute.invariant c.in-Ok.ensures

pub returns : goal.returns
returns c = all_pushed_twice (λ f. flat_map (mentions_of_slot c.args.pool.now) (slots_of_frame f)) (λ (a : CodeAttribute). table_in a.info) c.args.into.now c.loop-attribute.into c.args.attributes.now c.loop-attribute.attribute-index c.loop-attribute-test.false c.loop-attribute.invariant
