use Rattle.std.proofs.Common.{◌≡◌, map, drop}
use Rattle.std.specs.String.{string_bytes}
use Rattle.kilim_command.specs.grammar.Words.{ints_of}
use Rattle.kilim_command.proofs.grammar.Mapped.{behind_ints}
use Rattle.kilim_command.proofs.grammar.asked.integers.Given as goal

abbrev pub invariant-loop-word : goal.invariant-loop-word
invariant-loop-word l = behind_ints l.ints.items (ints_of (map string_bytes (drop l.word-index l.words))) ≡ ints_of (map string_bytes l.words)
