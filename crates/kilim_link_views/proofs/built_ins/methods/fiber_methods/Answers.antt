use Rattle.std.proofs.Common.{add-zero}
use Rattle.kilim_link_views.proofs.built_ins.methods.fiber_methods.Goals as goal

pub returns-in-Woven : goal.returns-in-Woven
returns-in-Woven c = λ first. rw c.in-Woven.is (simp add-zero)
