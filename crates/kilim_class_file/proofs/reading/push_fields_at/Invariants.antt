use Rattle.std.proofs.Common.{◌≡◌, ◌-◌}
use Rattle.kilim_class_grammar.specs.Reader.{many}
use Rattle.kilim_class_grammar.proofs.Loops.{with_front}
use Rattle.kilim_class_file.specs.Reading.{field_at}
use Rattle.kilim_class_file.proofs.reading.push_fields_at.Given as goal

abbrev pub invariant-loop : goal.invariant-loop
invariant-loop l = with_front l.fields (many (field_at l.len l.pool) (l.count - l.counter) l.rest) ≡ many (field_at l.len l.pool) l.count l.bytes
