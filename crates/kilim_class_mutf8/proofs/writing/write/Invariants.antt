use Rattle.std.proofs.Common.{◌≡◌, ◌++◌, take, length}
use Rattle.kilim_class_mutf8.specs.Spelling.{spelling}
use Rattle.kilim_class_mutf8.proofs.writing.write.Given as goal

abbrev pub invariant-loop-unit : goal.invariant-loop-unit
invariant-loop-unit l = record {
  before : l.before ≡ length l.fn.into.items;
  written : l.into.items ≡ l.fn.into.items ++ spelling (take l.unit-index l.unit-items);
}
