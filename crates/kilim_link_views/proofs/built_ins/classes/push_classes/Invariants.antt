use Rattle.std.proofs.Common.{◌≡◌, ◌++◌, map, take, Some}
use Rattle.kilim_program.specs.BuiltIn.{class_id}
use Rattle.kilim_link_views.specs.built_ins.Rows.{class_of}
use Rattle.kilim_link_views.proofs.built_ins.classes.push_classes.Given as goal

abbrev pub invariant-loop-row : goal.invariant-loop-row
invariant-loop-row l = l.classes ≡ l.fn.classes ++ map (class_of (Some (class_id l.first)) l.method) (take l.row-index l.rows)
