use Rattle.std.proofs.Common.{◌≡◌, ◌-◌}
use Rattle.kilim_class_grammar.specs.Reader.{many}
use Rattle.kilim_class_grammar.proofs.Loops.{with_front}
use Rattle.kilim_explain_lines.specs.Tables.{line_number_at}
use Rattle.kilim_explain_lines.proofs.reading.so_many_lines_at.Given as goal

abbrev pub invariant-loop : goal.invariant-loop
invariant-loop l = with_front l.rows (many line_number_at (l.count - l.counter) l.rest) ≡ many line_number_at l.count l.bytes
