use Rattle.std.proofs.Common.{List, ℕ, refl, ap, ◌∙◌}
use Rattle.kilim_link_spec.specs.World.{class_text}
use Rattle.kilim_link_spec.specs.declared.named.Mention.TheVariants.{OfClass}
use Rattle.kilim_link_spec.specs.declared.named.Named.TheVariants.{AClass}
use Rattle.kilim_link_mentions.proofs.Joined.{mapped_twice, all_mapped_twice}
use Rattle.kilim_link_mentions.proofs.mentions.push_interfaces.Goals as goal

pub loop-index-preserved : goal.loop-index-preserved
loop-index-preserved c = mapped_twice (λ name. OfClass (AClass name)) (class_text c.args.pool.now) c.args.into.now c.loop-index.into c.push.new.self c.args.interfaces.now c.loop-index.index-index _ _ (OfClass (AClass c.in-Ok.name)) c.loop-index-test.true refl c.loop-index.invariant (ap (λ (text : List ℕ). OfClass (AClass text)) (c.in-Ok.ensures ∙ c.class_text.ensures)) c.in-Ok-push.ensures.ok

pub returns : goal.returns
returns c = all_mapped_twice (λ name. OfClass (AClass name)) (class_text c.args.pool.now) c.args.into.now c.loop-index.into c.args.interfaces.now c.loop-index.index-index c.loop-index-test.false c.loop-index.invariant
