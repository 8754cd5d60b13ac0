use Rattle.std.proofs.Common.{◌≡◌, ◌∙◌, ℕ, List, Bool, false, ap, get_or}
use Rattle.kilim_weave_method.proofs.Flagged.{none_raised}
use Rattle.kilim_weave_method.proofs.flags.grow.Goals as goal

pub loop-flags-preserved : goal.loop-flags-preserved
loop-flags-preserved c k = ap (λ (t : List Bool). get_or t k false) c.in-Ok.ensures.items ∙ (none_raised c.loop-flags.flags.items k ∙ c.loop-flags.invariant k)
