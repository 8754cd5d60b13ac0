use Rattle.std.proofs.Common.{ℕ, subst}
use Rattle.std.specs.Prelude.{OnOk}
use Rattle.kilim_link_inherited.specs.Roots.{MadeBelow}
use Rattle.kilim_link_inherited.proofs.class_trees.make.Goals as goal

pub returns-clause-made : goal.returns-clause-made
returns-clause-made c = subst (λ (n : ℕ). OnOk c.make_all.result (MadeBelow n c.make_all.new.roots)) c.in-Ok-make_trees.ensures.kept.count c.make_all.ensures.made
