use Rattle.std.proofs.Common.{◌≡◌, ◌++◌, ◌≤◌, length, map, take, reverse}
use Rattle.kilim_program.specs.declared.ty.Ty.{Ty}
use Rattle.kilim_type_spec.specs.Step.{Is, vtype}
use Rattle.kilim_type_step.specs.Operands.{operands_of}
use Rattle.kilim_type_step.proofs.members.arguments.Given as goal

abbrev pub invariant-loop-left : goal.invariant-loop-left
invariant-loop-left l =
    (l.left ≤ length l.params) × (operands_of l.takes.items ++ reverse (map (λ (ty : Ty). Is (vtype ty)) (take l.left l.params)) ≡ reverse (map (λ (ty : Ty). Is (vtype ty)) l.params))

abbrev pub decreases-loop-left : goal.decreases-loop-left
decreases-loop-left l = l.left
