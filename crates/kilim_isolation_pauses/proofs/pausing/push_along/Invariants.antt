use Rattle.std.proofs.Common.{◌≡◌, ◌++◌, drop}
use Rattle.kilim_isolation_pauses.specs.Pausing.{reports_along}
use Rattle.kilim_isolation_pauses.proofs.pausing.push_along.Given as goal

abbrev pub invariant-loop-at : goal.invariant-loop-at
invariant-loop-at l = l.reports ++ reports_along l.program l.id l.method (drop l.at l.method.code) (drop l.at l.frames) ≡ l.fn.reports ++ reports_along l.program l.id l.method l.method.code l.frames
