use Rattle.std.proofs.Common.{◌≡◌, ◌++◌, drop}
use Rattle.kilim_weave_file_command.specs.woven_files.WovenFiles.{wove_lines}
use Rattle.kilim_weave_file_command.proofs.woven_files.lines.wove_lines.Given as goal

abbrev pub invariant-loop-file : goal.invariant-loop-file
invariant-loop-file l = l.text.items ++ wove_lines (drop l.file-index l.files) ≡ wove_lines l.files
