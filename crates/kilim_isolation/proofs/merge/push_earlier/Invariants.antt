use Rattle.std.proofs.Common.{◌≡◌, ◌++◌, drop}
use Rattle.kilim_isolation.specs.Faults.{earlier, later}
use Rattle.kilim_isolation.proofs.merge.push_earlier.Given as goal

abbrev pub invariant-loop-at : goal.invariant-loop-at
invariant-loop-at l = record {
  pushed : l.into ++ earlier l.report (drop l.at l.others) ≡ l.fn.into ++ earlier l.report (drop l.from l.others);
  rest : later l.report (drop l.at l.others) ≡ later l.report (drop l.from l.others);
}
