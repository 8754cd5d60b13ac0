use Rattle.std.proofs.Common.{◌≡◌, ◌++◌, take}
use Rattle.std.specs.List.{flat_map}
use Rattle.kilim_reports.specs.Names.{descriptor_unit}
use Rattle.kilim_reports.proofs.names.push_descriptor.Given as goal

abbrev pub invariant-loop-unit : goal.invariant-loop-unit
invariant-loop-unit l = l.text.items ≡ l.fn.text.items ++ flat_map descriptor_unit (take l.unit-index l.unit-items)
