use Rattle.std.proofs.Common.{◌≡◌, false, drop}
use Rattle.kilim_link_spec.specs.Faults.{are_paired}
use Rattle.kilim_link_file_faults.proofs.name.are_paired.Given as goal

abbrev pub invariant-loop-unit : goal.invariant-loop-unit
invariant-loop-unit l = are_paired l.behind_high (drop l.unit-index l.units) ≡ are_paired false l.units
