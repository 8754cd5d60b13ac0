use Rattle.std.proofs.Common.{◌≡◌, drop}
use Rattle.std.specs.String.{string_bytes}
use Rattle.kilim_command.specs.grammar.Parts.{is_int}
use Rattle.std.specs.List.{list_all}
use Rattle.kilim_command.proofs.grammar.asked.all_ints.Given as goal

abbrev pub invariant-loop-word : goal.invariant-loop-word
invariant-loop-word l = list_all (λ word. is_int (string_bytes word)) (drop l.word-index l.words) ≡ list_all (λ word. is_int (string_bytes word)) l.words
