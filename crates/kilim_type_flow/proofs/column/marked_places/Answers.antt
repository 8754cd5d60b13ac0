use Rattle.std.proofs.Common.{◌++◌, ◌∷◌, [], ◌∙◌, Bool, List, ap}
use Rattle.kilim_type_flow.proofs.Lists.{one_more}
use Rattle.kilim_type_flow.proofs.column.marked_places.Goals as goal

pub loop-preserved : goal.loop-preserved
loop-preserved c = c.in-Ok.ensures.items ∙ (ap (λ (bs : List Bool). bs ++ c.args.all ∷ []) c.loop.invariant ∙ one_more c.args.all c.loop.counter)
