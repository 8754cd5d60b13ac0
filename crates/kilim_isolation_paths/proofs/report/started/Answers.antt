use Rattle.std.proofs.Common.{ℕ, [], ◌∷◌, ◌++◌, ap, ◌∙◌}
use Rattle.kilim_isolation_paths.specs.Stored.{Stored}
use Rattle.kilim_isolation_paths.proofs.Begins.{first, good_first}
use Rattle.kilim_isolation_paths.proofs.report.started.Goals as goal

pub returns : goal.returns
returns g c =
    let m = g.M.Moves.means c.args.machine.now in
    let e = c.in-Ok.entry in
    good_first m (g.M.Moves.fits c.args.machine.now) e c.in-Ok.ensures.state.0 c.push.new.self c.in-Ok.ensures.place c.in-Ok.ensures.state.1
    (c.in-Ok-push.ensures.ok ∙ ap (λ (t : Stored _). record t { entries = t.entries ++ first e ∷ [] }) c.in-Ok-new.ensures ∙ ap (λ (n : ℕ). record { entries = first e ∷ []; size = n }) c.size.ensures)
