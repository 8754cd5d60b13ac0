use Rattle.std.proofs.Common.{◌≡◌, ◌+◌, map, drop}
use Rattle.std.specs.String.{string_bytes}
use Rattle.kilim_command.specs.grammar.Words.{count_plain}
use Rattle.kilim_command.proofs.grammar.asked.count_plain.Given as goal

abbrev pub invariant-loop-i : goal.invariant-loop-i
invariant-loop-i l = l.i + count_plain (map string_bytes (drop l.i l.words)) ≡ count_plain (map string_bytes l.words)
