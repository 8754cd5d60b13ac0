use Rattle.std.proofs.Common.{◌++◌, ◌∙◌, ap}
use Rattle.kilim_weave_method.proofs.woven_each.copy.joined.Goals as goal

pub returns : goal.returns
returns g c =
    c.from_vec.ensures
    ∙ (c.in-Ok.ensures.items ∙ (ap (λ xs. xs ++ c.into_vec-more.result.items) c.into_vec-all.ensures ∙ ap (λ ys. c.args.own ++ ys) c.into_vec-more.ensures))
