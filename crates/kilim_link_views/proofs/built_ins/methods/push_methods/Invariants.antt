use Rattle.std.proofs.Common.{◌≡◌, ◌++◌, map, take}
use Rattle.kilim_link_views.specs.built_ins.Rows.{method_of}
use Rattle.kilim_link_views.proofs.built_ins.methods.push_methods.Given as goal

abbrev pub invariant-loop-row : goal.invariant-loop-row
invariant-loop-row l = l.methods ≡ l.fn.methods ++ map (method_of l.form l.first) (take l.row-index l.rows)
