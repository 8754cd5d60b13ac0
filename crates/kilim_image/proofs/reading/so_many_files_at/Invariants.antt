use Rattle.std.proofs.Common.{◌≡◌, ◌-◌}
use Rattle.std.specs.Int.{w32}
use Rattle.kilim_class_grammar.specs.Reader.{many}
use Rattle.kilim_class_grammar.proofs.Loops.{with_front}
use Rattle.kilim_image.specs.Reading.{block_at}
use Rattle.kilim_image.proofs.reading.so_many_files_at.Given as goal

abbrev pub invariant-loop : goal.invariant-loop
invariant-loop l = with_front l.files (many (block_at w32) (l.count - l.counter) l.rest) ≡ many (block_at w32) l.count l.bytes
