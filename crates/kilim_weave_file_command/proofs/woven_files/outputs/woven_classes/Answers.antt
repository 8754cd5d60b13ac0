use Rattle.kilim_weave_file_command.proofs.woven_files.Written.{few_classes, few_woven}
use Rattle.kilim_weave_file_command.proofs.woven_files.outputs.woven_classes.Goals as goal

pub linked_outputs-requires-clause-few : goal.linked_outputs-requires-clause-few
linked_outputs-requires-clause-few c =
    few_woven c.args.woven.now.program c.args.files.now c.in-Ok.made c.as_slice.result.now c.args.program.now.methods c.args.woven.now.program.methods c.args.woven.now.counted c.as_slice.ensures c.in-Ok.ensures.made c.requires.few

pub linked_outputs-requires-clause-classes : goal.linked_outputs-requires-clause-classes
linked_outputs-requires-clause-classes c =
    few_classes c.args.woven.now.program c.args.files.now c.in-Ok.made c.as_slice.result.now c.args.program.now.methods c.args.woven.now.program.methods c.args.woven.now.counted c.args.program.now.classes c.as_slice.ensures c.in-Ok.ensures.made c.requires.each.classes
