use Rattle.std.proofs.Common.{◌≡◌}
use Rattle.kilim_class_builder.specs.Members.{source_text}
use Rattle.kilim_class_builder.proofs.code.source_bytes.Given as goal

abbrev pub invariant-loop-instr : goal.invariant-loop-instr
invariant-loop-instr l = l.bytes.items ≡ source_text 0 l.yielded
