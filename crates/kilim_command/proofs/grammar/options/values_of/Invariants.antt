use Rattle.std.proofs.Common.{map, take}
use Rattle.std.specs.String.{string_bytes}
use Rattle.kilim_command.specs.grammar.Parts.{Tells}
use Rattle.kilim_command.specs.grammar.Words.{values_of}
use Rattle.kilim_command.proofs.grammar.options.values_of.Given as goal

abbrev pub invariant-loop-option : goal.invariant-loop-option
invariant-loop-option l = Tells l.found (values_of l.front (map string_bytes (take l.option-index l.options)))
