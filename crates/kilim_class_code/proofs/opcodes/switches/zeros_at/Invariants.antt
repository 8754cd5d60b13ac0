use Rattle.std.proofs.Common.{◌≡◌, ◌-◌}
use Rattle.kilim_class_code.specs.opcodes.Reading.{zeros_at}
use Rattle.kilim_class_code.proofs.opcodes.switches.zeros_at.Given as goal

abbrev pub invariant-loop : goal.invariant-loop
invariant-loop l = zeros_at l.op (l.count - l.counter) l.rest ≡ zeros_at l.op l.count l.bytes
