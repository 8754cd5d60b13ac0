use Rattle.std.proofs.Common.{◌≡◌, map, drop}
use Rattle.std.specs.String.{string_bytes}
use Rattle.std.specs.List.{list_all}
use Rattle.kilim_command.specs.grammar.Words.{is_resume_option}
use Rattle.kilim_command.proofs.grammar.options.are_resume_options.Given as goal

abbrev pub invariant-loop-word : goal.invariant-loop-word
invariant-loop-word l = list_all is_resume_option (map string_bytes (drop l.word-index l.words)) ≡ list_all is_resume_option (map string_bytes l.words)
