use Rattle.std.proofs.Common.{◌<◌}
use Rattle.kilim_type_flow.specs.Marks.{EachUpTo}
use Rattle.kilim_type_flow.proofs.table.places_below.Given as goal

abbrev pub invariant-loop-at : goal.invariant-loop-at
invariant-loop-at l = EachUpTo l.at l.fn.method.code (λ e. e.0 < l.most)
