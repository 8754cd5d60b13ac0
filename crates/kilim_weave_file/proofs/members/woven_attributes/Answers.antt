use Rattle.std.proofs.Common.{◌++◌, List, [], ap, ◌∙◌}
use Rattle.std.specs.List.{cons_option, filter_map}
use Rattle.kilim_class_attributes.specs.declared.attribute.Attribute.{Attribute}
use Rattle.kilim_weave_file_spec.specs.WovenFile.{woven_attribute}
use Rattle.kilim_weave_file.proofs.Lists.{filter_map_last}
use Rattle.kilim_weave_file.proofs.members.woven_attributes.Goals as goal

pub loop-attribute-preserved : goal.loop-attribute-preserved
loop-attribute-preserved c =
    let f = woven_attribute c.args.program.now c.args.old.now c.args.pool.now c.args.method.now c.args.counted.now in
    c.in-Ok.ensures ∙ (ap (λ (xs : List Attribute). xs ++ cons_option (f c.in-Some.attribute) []) c.loop-attribute.invariant ∙ filter_map_last f c.loop-attribute.yielded c.in-Some.attribute)
