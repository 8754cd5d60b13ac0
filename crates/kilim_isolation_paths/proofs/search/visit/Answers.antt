use Rattle.std.proofs.Common.{◌<◌, length, subst, sym}
use Rattle.std.specs.Result.{IfOk}
use Rattle.kilim_isolation_paths.specs.Search.{Good, Visited}
use Rattle.kilim_isolation_paths.specs.Stored.{Stored}
use Rattle.kilim_isolation_paths.proofs.search.visit.Goals as goal

pub visit_all-requires-clause-good : goal.visit_all-requires-clause-good
visit_all-requires-clause-good g c = subst (λ (s : Stored _). Good (g.M.Moves.means c.args.machine.now) (g.M.Moves.fits c.args.machine.now) s c.args.found.now.items) (sym c.sweep.ensures) c.requires.good

pub visit_all-requires-clause-at : goal.visit_all-requires-clause-at
visit_all-requires-clause-at g c = subst (λ (s : Stored _). c.args.at < length s.entries) (sym c.sweep.ensures) c.requires.at

pub returns : goal.returns
returns g c =
    subst (λ (s : Stored _). IfOk c.visit_all.result (Visited (g.M.Moves.means c.args.machine.now) (g.M.Moves.fits c.args.machine.now) s c.visit_all.new.store c.args.found.now.items c.visit_all.new.found.items c.args.at))
    c.sweep.ensures c.visit_all.ensures
