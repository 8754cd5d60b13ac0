use Rattle.std.proofs.Common.{◌≡◌, ◌-◌}
use Rattle.kilim_class_grammar.specs.Reader.{many}
use Rattle.kilim_class_grammar.proofs.Loops.{with_front}
use Rattle.kilim_class_file.specs.Reading.{method_at}
use Rattle.kilim_class_file.proofs.reading.push_methods_at.Given as goal

abbrev pub invariant-loop : goal.invariant-loop
invariant-loop l = with_front l.methods (many (method_at l.len l.pool) (l.count - l.counter) l.rest) ≡ many (method_at l.len l.pool) l.count l.bytes
