use Rattle.std.proofs.Common.{◌≡◌, ◌++◌, drop}
use Rattle.std.specs.List.{flat_map}
use Rattle.kilim_isolation_pauses.specs.Pausing.{reports_of}
use Rattle.kilim_isolation_pauses.proofs.pausing.push_each.Given as goal

abbrev pub invariant-loop-id : goal.invariant-loop-id
invariant-loop-id l = l.reports ++ flat_map (reports_of l.typed) (drop l.id-index l.ids) ≡ l.fn.reports ++ flat_map (reports_of l.typed) l.ids
