use Rattle.std.proofs.Common.{◌≡◌, drop}
use Rattle.std.specs.String.{string_bytes}
use Rattle.kilim_command.specs.grammar.Words.{is_file}
use Rattle.std.specs.List.{list_all}
use Rattle.kilim_command.proofs.grammar.asked.all_files.Given as goal

abbrev pub invariant-loop-file : goal.invariant-loop-file
invariant-loop-file l = list_all (λ file. is_file (string_bytes file)) (drop l.file-index l.files) ≡ list_all (λ file. is_file (string_bytes file)) l.files
