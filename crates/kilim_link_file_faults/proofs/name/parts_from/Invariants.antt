use Rattle.std.proofs.Common.{◌≡◌, true, drop}
use Rattle.kilim_link_file_faults.specs.Slashes.{parts_from}
use Rattle.kilim_link_file_faults.proofs.name.parts_from.Given as goal

abbrev pub invariant-loop-unit : goal.invariant-loop-unit
invariant-loop-unit l = parts_from l.begins (drop l.unit-index l.name) ≡ parts_from true l.name
