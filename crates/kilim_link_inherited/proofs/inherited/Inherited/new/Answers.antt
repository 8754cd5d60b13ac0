use Rattle.std.proofs.Common.{ℕ, subst}
use Rattle.kilim_link_inherited.proofs.Inheriting.{is_right, no_more_keys}
use Rattle.kilim_link_inherited.specs.Roots.{MadeBelow}
use Rattle.kilim_link_inherited.proofs.inherited.Inherited.new.Goals as goal

pub returns-in-Ok : goal.returns-in-Ok
returns-in-Ok c = is_right c.args.ups.now c.args.entries.now c.requires c.make.new.nodes c.make.new.roots c.in-Ok.ensures.sound (subst (λ (n : ℕ). MadeBelow n c.make.new.roots) c.in_ok-roots.ensures.count c.in-Ok.ensures.made)

pub invariant_of-result : goal.invariant_of-result
invariant_of-result c = no_more_keys c.args.ups.now c.args.entries.now c.requires c.make.new.nodes c.make.new.roots c.in-Ok.ensures.sound (subst (λ (n : ℕ). MadeBelow n c.make.new.roots) c.in_ok-roots.ensures.count c.in-Ok.ensures.made)
