use Rattle.std.proofs.Common.{[], ◌∷◌, ◌++◌, ap, ◌∙◌}
use Rattle.kilim_demo.proofs.parts.one.Goals as goal

pub returns : goal.returns
returns g c = c.in-Ok.ensures.ok ∙ ap (λ xs. xs ++ c.args.first ∷ []) c.new-items.ensures
