use Rattle.std.proofs.Common.{◌≡◌, length}
use Rattle.kilim_class_descriptors.specs.Reading.{field_at, field_behind}
use Rattle.kilim_class_descriptors.proofs.fields.dims_at.Given as goal

abbrev pub invariant-loop-rest : goal.invariant-loop-rest
invariant-loop-rest l = field_behind l.dims l.rest ≡ field_at l.units

abbrev pub decreases-loop-rest : goal.decreases-loop-rest
decreases-loop-rest l = length l.rest
