use Rattle.std.proofs.Common.{◌≡◌, ◌-◌}
use Rattle.kilim_class_grammar.specs.Reader.{many}
use Rattle.kilim_class_grammar.proofs.Loops.{with_front}
use Rattle.kilim_class_attributes.specs.parts.Frames.{type_at}
use Rattle.kilim_class_attributes.proofs.parts.frame_reading.types_at.Given as goal

abbrev pub invariant-loop : goal.invariant-loop
invariant-loop l = with_front l.types (many (type_at l.pool) (l.count - l.counter) l.rest) ≡ many (type_at l.pool) l.count l.bytes
