use Rattle.kilim_link_spec.specs.Types.{each_of, itself}
use Rattle.kilim_link_spec.specs.Linked.{linked_class, numbered}
use Rattle.kilim_link_members.proofs.Appended.{all_alone, none_alone}
use Rattle.kilim_link_members.proofs.files.linked_classes.Goals as goal

pub returns-in-Ok-true : goal.returns-in-Ok-true
returns-in-Ok-true c = all_alone c.new-classes.result c.push_classes.new.into c.in-Ok-true.field-0 (each_of itself (numbered (linked_class c.args.world.now) 0 c.args.files.now)) c.new-classes.ensures c.in-Ok-true.field-0-test c.in-Ok-true.ensures

pub returns-in-Ok-false : goal.returns-in-Ok-false
returns-in-Ok-false c = none_alone c.new-classes.result c.push_classes.new.into c.in-Ok-false.field-0 (each_of itself (numbered (linked_class c.args.world.now) 0 c.args.files.now)) c.new-classes.ensures c.in-Ok-false.field-0-test c.in-Ok-false.ensures
