use Rattle.std.proofs.Common.{take}
use Rattle.kilim_type_flow.specs.Marks.{Further}
use Rattle.kilim_type_flow.proofs.before.add_edges.Given as goal

abbrev pub invariant-loop-at : goal.invariant-loop-at
invariant-loop-at l = Further l.fn.place (take l.at l.fn.tos) l.initial.rows.items l.rows.items
