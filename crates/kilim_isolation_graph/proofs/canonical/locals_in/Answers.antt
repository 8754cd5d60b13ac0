use Rattle.std.proofs.Common.{◌∙◌, ◌++◌, ℕ, List, Option, None, ap, map, replicate, sym}
use Rattle.kilim_isolation_graph.specs.Canonical.{renumbered}
use Rattle.kilim_isolation_graph.proofs.Fronts.{renumbered_front}
use Rattle.kilim_isolation_graph.proofs.canonical.locals_in.Goals as goal

pub returns : goal.returns
returns c =
    let order = c.args.order.now in
    let front = c.parts-more.result.0.now in
    let more = c.parts-more.result.1 in
    c.new.ensures
    ∙ (ap (λ (xs : List (Option ℕ)). xs ++ replicate more None) c.in-Ok.ensures
    ∙ (renumbered_front order front more ∙ ap (map (renumbered order)) (sym c.parts-more.ensures)))
