use Rattle.std.proofs.Common.{◌≡◌, ◌++◌, drop}
use Rattle.std.specs.List.{flat_map}
use Rattle.kilim_isolation_pauses.specs.Pausing.{calls_of}
use Rattle.kilim_isolation_pauses.proofs.pausing.push_calls_of_each.Given as goal

abbrev pub invariant-loop-id : goal.invariant-loop-id
invariant-loop-id l = l.calls ++ flat_map (calls_of l.program) (drop l.id-index l.ids) ≡ l.fn.calls ++ flat_map (calls_of l.program) l.ids
