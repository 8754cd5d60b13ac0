use Rattle.std.proofs.Common.{◌≡◌, ◌-◌}
use Rattle.kilim_class_grammar.specs.Reader.{many}
use Rattle.kilim_class_grammar.proofs.Loops.{with_front}
use Rattle.kilim_class_attributes.specs.Codes.{handler_at}
use Rattle.kilim_class_attributes.proofs.code_reading.so_many_handlers_at.Given as goal

abbrev pub invariant-loop : goal.invariant-loop
invariant-loop l = with_front l.handlers (many (handler_at l.pool) (l.count - l.counter) l.rest) ≡ many (handler_at l.pool) l.count l.bytes
