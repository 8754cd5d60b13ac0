use Rattle.std.proofs.Common.{◌≡◌, ◌-◌, []}
use Rattle.kilim_class_attributes.specs.Lists.{many_after}
use Rattle.kilim_class_attributes.specs.Attributes.{attribute_at}
use Rattle.kilim_class_attributes.proofs.reading.push_attributes_at.Given as goal

abbrev pub invariant-loop : goal.invariant-loop
invariant-loop l = many_after (attribute_at l.pool l.place) l.attributes (l.count - l.counter) l.rest ≡ many_after (attribute_at l.pool l.fn.place) [] l.count l.bytes
