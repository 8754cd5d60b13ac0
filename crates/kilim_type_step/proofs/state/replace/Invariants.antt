use Rattle.std.proofs.Common.{◌≡◌}
use Rattle.kilim_type_step.proofs.Types.{part_replaced}
use Rattle.kilim_type_step.proofs.state.replace.Given as goal

abbrev pub invariant-loop-t : goal.invariant-loop-t
invariant-loop-t l = l.t-items ≡ part_replaced l.old l.new l.fn.types.items l.t-index
