use Rattle.std.proofs.Common.{◌≡◌, ◌++◌, drop}
use Rattle.kilim_isolation_pauses.specs.Pausing.{calls_along}
use Rattle.kilim_isolation_pauses.proofs.pausing.push_calls.Given as goal

abbrev pub invariant-loop-placed : goal.invariant-loop-placed
invariant-loop-placed l = l.calls ++ calls_along l.program l.id (drop l.placed-index l.code) ≡ l.fn.calls ++ calls_along l.program l.id l.code
