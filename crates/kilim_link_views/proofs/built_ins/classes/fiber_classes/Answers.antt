use Rattle.std.proofs.Common.{refl}
use Rattle.kilim_link_views.proofs.built_ins.classes.fiber_classes.Goals as goal

pub returns-in-Woven : goal.returns-in-Woven
returns-in-Woven c = λ first method. rw c.in-Woven.is refl
