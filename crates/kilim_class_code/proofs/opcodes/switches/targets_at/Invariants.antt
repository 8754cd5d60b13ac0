use Rattle.std.proofs.Common.{◌≡◌, ◌-◌}
use Rattle.std.specs.Int.{w32}
use Rattle.kilim_class_grammar.specs.Reader.{many}
use Rattle.kilim_class_grammar.proofs.Loops.{with_front}
use Rattle.kilim_class_code.specs.opcodes.Reading.{target_at}
use Rattle.kilim_class_code.proofs.opcodes.switches.targets_at.Given as goal

abbrev pub invariant-loop : goal.invariant-loop
invariant-loop l = with_front l.targets (many (target_at l.op l.at w32) (l.count - l.counter) l.rest) ≡ many (target_at l.op l.at w32) l.count l.bytes
