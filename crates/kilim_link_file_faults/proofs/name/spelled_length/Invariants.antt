use Rattle.std.proofs.Common.{◌≡◌, ◌≤◌, ◌*◌, length, take}
use Rattle.kilim_class_mutf8.specs.Spelling.{spelling}
use Rattle.kilim_link_file_faults.proofs.name.spelled_length.Given as goal

abbrev pub invariant-loop-unit : goal.invariant-loop-unit
invariant-loop-unit l = record {
  so_far : l.length ≡ length (spelling (take l.unit-index l.units));
  few : l.length ≤ 3 * l.unit-index;
}
