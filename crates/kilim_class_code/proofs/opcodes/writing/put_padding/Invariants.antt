use Rattle.std.proofs.Common.{◌≡◌, ◌++◌, replicate}
use Rattle.kilim_class_code.proofs.opcodes.writing.put_padding.Given as goal

abbrev pub invariant-loop : goal.invariant-loop
invariant-loop l = l.into.items ≡ l.fn.into.items ++ replicate l.counter 0
