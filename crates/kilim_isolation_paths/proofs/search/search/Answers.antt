use Rattle.std.proofs.Common.{◌∙◌, sym, arith}
use Rattle.kilim_isolation_paths.proofs.Lists.{is_none}
use Rattle.kilim_isolation_paths.proofs.Reach.{length_few}
use Rattle.kilim_isolation_paths.proofs.Ends.{search_step, search_end}
use Rattle.kilim_isolation_paths.proofs.search.search.Goals as goal

pub loop-at-smaller : goal.loop-at-smaller
loop-at-smaller g c =
    let bound = length_few (g.M.Moves.means c.args.machine.now).size c.loop-at.store.entries c.loop-at.invariant.good.known.within c.loop-at.invariant.good.few in
    omega arith

pub loop-at-preserved : goal.loop-at-preserved
loop-at-preserved g c =
    let r = search_step (g.M.Moves.means c.args.machine.now) (g.M.Moves.fits c.args.machine.now) c.loop-at.store c.visit.new.store c.loop-at.found.items c.visit.new.found.items c.loop-at.at c.in-Ok.full c.loop-at.invariant.done (omega arith) c.in-Ok.ensures (is_none c.in-Ok.full (sym c.is_some.ensures ∙ c.if-is_some.false)) in
    record { good = r.0; done = r.1 }

pub returns : goal.returns
returns g c = (c.loop-at.invariant.good, search_end (g.M.Moves.means c.args.machine.now) c.loop-at.store.entries c.loop-at.found.items c.loop-at.at c.loop-at.invariant.done (omega arith))
