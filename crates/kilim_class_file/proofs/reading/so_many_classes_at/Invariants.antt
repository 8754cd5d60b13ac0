use Rattle.std.proofs.Common.{◌≡◌, ◌-◌}
use Rattle.kilim_class_grammar.specs.Reader.{many}
use Rattle.kilim_class_grammar.proofs.Loops.{with_front}
use Rattle.kilim_class_file.specs.Reading.{class_index_at}
use Rattle.kilim_class_file.proofs.reading.so_many_classes_at.Given as goal

abbrev pub invariant-loop : goal.invariant-loop
invariant-loop l = with_front l.classes (many (class_index_at l.len l.pool) (l.count - l.counter) l.rest) ≡ many (class_index_at l.len l.pool) l.count l.bytes
