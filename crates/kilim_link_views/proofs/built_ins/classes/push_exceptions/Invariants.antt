use Rattle.std.proofs.Common.{◌≡◌, ◌++◌, map, take}
use Rattle.kilim_link_views.specs.built_ins.Rows.{exception_of}
use Rattle.kilim_link_views.proofs.built_ins.classes.push_exceptions.Given as goal

abbrev pub invariant-loop-row : goal.invariant-loop-row
invariant-loop-row l = l.classes ≡ l.fn.classes ++ map (exception_of l.first l.method) (take l.row-index l.rows)
