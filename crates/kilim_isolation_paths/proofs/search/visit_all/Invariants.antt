use Rattle.kilim_isolation_paths.specs.Search.{Good, Later}
use Rattle.kilim_isolation_paths.proofs.Loops.{DoneBelow}
use Rattle.kilim_isolation_paths.proofs.search.visit_all.Given as goal

abbrev pub invariant-loop-exit : goal.invariant-loop-exit
invariant-loop-exit g l =
    let m = g.M.Moves.means l.machine in
    record {
      good : Good m (g.M.Moves.fits l.machine) l.store l.found.items;
      later : Later l.fn.store.entries l.store.entries l.fn.found.items l.found.items;
      done : DoneBelow m l.fn.store.entries l.store.entries l.found.items l.at l.exit-index;
    }
