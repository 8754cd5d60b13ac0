use Rattle.std.proofs.Common.{◌++◌}
use Rattle.std.specs.List.{flat_map}
use Rattle.kilim_lemmas.proofs.Walks.{ahead, all_ahead}
use Rattle.kilim_class_descriptors.specs.Text.{field_text}
use Rattle.kilim_weave_file_sizes.proofs.texts.push_params.Goals as goal

pub loop-field-preserved : goal.loop-field-preserved
loop-field-preserved c =
    ahead field_text c.loop-field.out.items c.push_field_text.new.out.items (c.args.out.now.items ++ flat_map field_text c.args.params.now) c.args.params.now c.loop-field.field-index c.field-item.result _
    c.loop-field-test.true c.field-item.is c.loop-field.invariant c.in-Ok.ensures

pub returns : goal.returns
returns c = all_ahead field_text c.loop-field.out.items (c.args.out.now.items ++ flat_map field_text c.args.params.now) c.args.params.now c.loop-field.field-index c.loop-field-test.false c.loop-field.invariant
