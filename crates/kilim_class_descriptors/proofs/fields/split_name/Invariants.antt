use Rattle.std.proofs.Common.{◌≡◌, take, drop}
use Rattle.kilim_class_descriptors.specs.Reading.{split_name}
use Rattle.kilim_class_descriptors.proofs.Steps.{name_behind}
use Rattle.kilim_class_descriptors.proofs.fields.split_name.Given as goal

abbrev pub invariant-loop-at : goal.invariant-loop-at
invariant-loop-at l = name_behind (take l.at l.units) (split_name (drop l.at l.units)) ≡ split_name l.units
