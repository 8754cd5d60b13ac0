use Rattle.std.proofs.Common.{◌≡◌, ◌++◌, take}
use Rattle.std.specs.List.{flat_map}
use Rattle.kilim_units.specs.NameText.{name_unit}
use Rattle.kilim_units.proofs.shown.push_name.Given as goal

abbrev pub invariant-loop-unit : goal.invariant-loop-unit
invariant-loop-unit l = l.out.items ≡ l.fn.out.items ++ flat_map name_unit (take l.unit-index l.units)
