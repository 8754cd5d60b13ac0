use Rattle.std.proofs.Common.{◌≡◌, take}
use Rattle.std.specs.Prelude.{sum_by}
use Rattle.kilim_program.specs.Same.{type_slots}
use Rattle.kilim_weave_method.proofs.slots.param_slots.Given as goal

abbrev pub invariant-loop-at : goal.invariant-loop-at
invariant-loop-at l = l.sum ≡ sum_by type_slots (take l.at l.fn.params)
