use Rattle.std.proofs.Common.{◌≡◌, ◌-◌, []}
use Rattle.kilim_class_attributes.specs.Lists.{many_after}
use Rattle.kilim_class_attributes.specs.Codes.{code_attribute_at}
use Rattle.kilim_class_attributes.proofs.code_reading.push_attributes_at.Given as goal

abbrev pub invariant-loop : goal.invariant-loop
invariant-loop l = many_after (code_attribute_at l.pool) l.attributes (l.count - l.counter) l.rest ≡ many_after (code_attribute_at l.pool) [] l.count l.bytes
