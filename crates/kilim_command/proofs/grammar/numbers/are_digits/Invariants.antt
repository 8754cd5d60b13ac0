use Rattle.std.proofs.Common.{◌≡◌, drop}
use Rattle.kilim_command.specs.grammar.Numbers.{is_digit}
use Rattle.std.specs.List.{list_all}
use Rattle.kilim_command.proofs.grammar.numbers.are_digits.Given as goal

abbrev pub invariant-loop-byte : goal.invariant-loop-byte
invariant-loop-byte l = list_all is_digit (drop l.byte-index l.bytes) ≡ list_all is_digit l.bytes
