use Rattle.std.proofs.Common.{◌≡◌, ◌++◌, drop}
use Rattle.kilim_type_spec.specs.Typed.{param_slots}
use Rattle.kilim_type_step.proofs.entry.push_params.Given as goal

abbrev pub invariant-loop-ty : goal.invariant-loop-ty
invariant-loop-ty l = l.slots.items ++ param_slots (drop l.ty-index l.params) ≡ l.fn.slots.items ++ param_slots l.params
