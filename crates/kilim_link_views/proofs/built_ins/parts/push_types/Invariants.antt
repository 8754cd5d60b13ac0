use Rattle.std.proofs.Common.{◌≡◌, ◌++◌, map, take}
use Rattle.kilim_link_views.specs.built_ins.Rows.{type_of}
use Rattle.kilim_link_views.proofs.built_ins.parts.push_types.Given as goal

abbrev pub invariant-loop-kind : goal.invariant-loop-kind
invariant-loop-kind l = l.types.items ≡ l.fn.types.items ++ map (type_of l.first) (take l.kind-index l.kinds)
