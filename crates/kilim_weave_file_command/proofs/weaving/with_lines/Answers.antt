use Rattle.std.proofs.Common.{ap, ◌∙◌}
use Rattle.kilim_weave_file_command.specs.woven_files.WovenFiles.{wove_lines}
use Rattle.kilim_weave_file_command.proofs.Made.{is_weaving}
use Rattle.kilim_weave_file_command.proofs.weaving.with_lines.Goals as goal

pub returns : goal.returns
returns c =
    is_weaving c.woven_files_have_own_paths.ensures c.args.to.now c.args.files.now c.args.woven.items c.in-Ok-outputs_of.outputs.items c.in-Ok.text.items c.requires.few c.requires.woven c.in-Ok-outputs_of.ensures
    (c.in-Ok.ensures ∙ ap wove_lines c.as_slice.ensures.value)
