use Rattle.std.proofs.Common.{◌≡◌, ◌++◌, length}
use Rattle.kilim_class_mutf8.specs.Spelling.{spelling, UnitsFit}
use Rattle.kilim_class_mutf8.proofs.OneUnit.{takes}
use Rattle.kilim_class_mutf8.proofs.reading.read.Given as goal

abbrev pub invariant-loop-rest : goal.invariant-loop-rest
invariant-loop-rest l = record {
  parts : l.bytes ≡ spelling l.units.items ++ l.rest;
  fit : UnitsFit l.units.items;
}

abbrev pub decreases-loop-rest : goal.decreases-loop-rest
decreases-loop-rest l = length l.rest
