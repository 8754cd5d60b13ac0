use Rattle.std.proofs.Common.{◌-◌, ◌*◌}
use Rattle.kilim_isolation_paths.specs.Search.{Good}
use Rattle.kilim_isolation_paths.proofs.Loops.{DoneUpTo}
use Rattle.kilim_isolation_paths.proofs.search.search.Given as goal

abbrev pub invariant-loop-at : goal.invariant-loop-at
invariant-loop-at g l =
    let m = g.M.Moves.means l.machine in
    record {
      good : Good m (g.M.Moves.fits l.machine) l.store l.found.items;
      done : DoneUpTo m l.store.entries l.found.items l.at;
    }

abbrev pub decreases-loop-at : goal.decreases-loop-at
decreases-loop-at g l = 256 * (g.M.Moves.means l.machine).size - l.at
