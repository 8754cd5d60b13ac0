use Rattle.std.proofs.Common.{◌≡◌, ◌≤◌, ◌*◌, take}
use Rattle.std.specs.Prelude.{sum_by}
use Rattle.kilim_class_descriptors.specs.Text.{slots}
use Rattle.kilim_class_descriptors.proofs.methods.slots_of.Given as goal

abbrev pub invariant-loop-param : goal.invariant-loop-param
invariant-loop-param l = record {
  sum : l.sum ≡ sum_by slots (take l.param-index l.params);
  few : l.sum ≤ 2 * l.param-index;
}
