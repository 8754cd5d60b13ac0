use Rattle.std.proofs.Common.{◌≡◌, ◌++◌, take}
use Rattle.kilim_isolation.proofs.merge.append.Given as goal

abbrev pub invariant-loop-report : goal.invariant-loop-report
invariant-loop-report l = l.into ≡ l.fn.into ++ take l.report-index l.more
