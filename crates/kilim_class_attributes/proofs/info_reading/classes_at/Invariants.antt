use Rattle.std.proofs.Common.{◌≡◌, ◌-◌}
use Rattle.kilim_class_grammar.specs.Reader.{many}
use Rattle.kilim_class_grammar.proofs.Loops.{with_front}
use Rattle.kilim_class_attributes.specs.declared.parts.fault.AttributeFault.TheVariants as fault
use Rattle.kilim_class_attributes.specs.declared.parts.name.AttributeName.TheVariants as name
use Rattle.kilim_class_attributes.specs.declared.parts.index.EntryKind.TheVariants as kind
use Rattle.kilim_class_attributes.specs.parts.Indices.{index_at}
use Rattle.kilim_class_attributes.proofs.info_reading.classes_at.Given as goal

abbrev pub invariant-loop : goal.invariant-loop
invariant-loop l = with_front l.classes (many (index_at l.pool kind.Class (fault.Length name.Exceptions)) (l.count - l.counter) l.rest) ≡ many (index_at l.pool kind.Class (fault.Length name.Exceptions)) l.count l.bytes
