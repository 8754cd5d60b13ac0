use Rattle.std.proofs.Common.{◌<◌, length}
use Rattle.kilim_isolation_paths.proofs.Loops.{LeadsBack}
use Rattle.kilim_isolation_paths.proofs.report.path_to.Given as goal

abbrev pub invariant-loop-k : goal.invariant-loop-k
invariant-loop-k g l = record {
  within : l.k < length l.store.entries;
  back : LeadsBack l.store.entries l.at l.k l.path.items;
}

abbrev pub decreases-loop-k : goal.decreases-loop-k
decreases-loop-k g l = l.k
