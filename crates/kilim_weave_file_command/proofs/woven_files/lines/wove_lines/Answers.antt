use Rattle.std.proofs.Common.{List, ◌++◌, ap, sym, ◌∙◌}
use Rattle.std.proofs.lemmas.List.{append-nil, drop_all}
use Rattle.kilim_weave_file_command.specs.declared.woven_files.made.WovenFile.{WovenFile}
use Rattle.kilim_weave_file_command.specs.woven_files.WovenFiles.{wove_line, wove_lines}
use Rattle.kilim_weave_file_command.proofs.Loops.{joined_before}
use Rattle.kilim_weave_file_command.proofs.woven_files.lines.wove_lines.Goals as goal

pub loop-file-preserved : goal.loop-file-preserved
loop-file-preserved c =
    joined_before wove_line c.loop-file.text.items c.push_wove_line.new.text.items c.args.files.now c.loop-file.file-index c.file-item.result c.loop-file-test.true c.file-item.is c.in-Ok.ensures c.loop-file.invariant

pub returns : goal.returns
returns c =
    sym (append-nil c.loop-file.text.items)
    ∙ (ap (λ (files : List WovenFile). c.loop-file.text.items ++ wove_lines files) (sym (drop_all c.loop-file.file-index c.args.files.now c.loop-file-test.false)) ∙ c.loop-file.invariant)
