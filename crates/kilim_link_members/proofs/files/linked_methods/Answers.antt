use Rattle.kilim_link_spec.specs.Types.{each_of, itself}
use Rattle.kilim_link_spec.specs.Linked.{linked_method, members}
use Rattle.kilim_link_members.proofs.Appended.{all_alone, none_alone}
use Rattle.kilim_link_members.proofs.files.linked_methods.Goals as goal

pub returns-in-Ok-true : goal.returns-in-Ok-true
returns-in-Ok-true c = all_alone c.new-methods.result c.push_all_methods.new.into c.in-Ok-true.field-0 (each_of itself (members (λ file. file.methods) (linked_method c.args.world.now) c.args.files.now)) c.new-methods.ensures c.in-Ok-true.field-0-test c.in-Ok-true.ensures

pub returns-in-Ok-false : goal.returns-in-Ok-false
returns-in-Ok-false c = none_alone c.new-methods.result c.push_all_methods.new.into c.in-Ok-false.field-0 (each_of itself (members (λ file. file.methods) (linked_method c.args.world.now) c.args.files.now)) c.new-methods.ensures c.in-Ok-false.field-0-test c.in-Ok-false.ensures
