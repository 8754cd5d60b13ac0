use Rattle.std.proofs.Common.{◌≡◌, ◌-◌}
use Rattle.std.specs.Prelude.{None}
use Rattle.kilim_class_grammar.proofs.Loops.{with_front}
use Rattle.kilim_class_code.specs.opcodes.Reading.{pairs_at}
use Rattle.kilim_class_code.proofs.opcodes.switches.pairs_at.Given as goal

abbrev pub invariant-loop : goal.invariant-loop
invariant-loop l = with_front l.pairs (pairs_at l.op l.at (l.count - l.counter) l.least l.rest) ≡ pairs_at l.op l.at l.count None l.bytes
