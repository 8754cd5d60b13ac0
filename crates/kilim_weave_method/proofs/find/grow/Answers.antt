use Rattle.std.proofs.Common.{◌≡◌, ◌∙◌, ℕ, List, Option, None, ap, get_or}
use Rattle.kilim_weave_method.proofs.Tabled.{none_more}
use Rattle.kilim_weave_method.proofs.find.grow.Goals as goal

pub loop-table-preserved : goal.loop-table-preserved
loop-table-preserved c k = ap (λ (t : List (Option ℕ)). get_or t k None) c.in-Ok.ensures.items ∙ (none_more c.loop-table.table.items k ∙ c.loop-table.invariant k)
