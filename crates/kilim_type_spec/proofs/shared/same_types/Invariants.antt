use Rattle.std.proofs.Common.{◌≡◌, take}
use Rattle.kilim_type_spec.proofs.shared.same_types.Given as goal

abbrev pub invariant-loop-at : goal.invariant-loop-at
invariant-loop-at l = take l.at l.one ≡ take l.at l.other
