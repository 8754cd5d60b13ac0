use Rattle.std.proofs.Common.{List, ℕ, ap, ◌∙◌}
use Rattle.kilim_class_file.specs.declared.class_file.MemberInfo.{MemberInfo}
use Rattle.kilim_link_spec.specs.World.{member_descriptor}
use Rattle.kilim_link_spec.specs.declared.named.Mention.TheVariants.{OfField}
use Rattle.kilim_link_mentions.proofs.Joined.{mapped, all_mapped}
use Rattle.kilim_link_mentions.proofs.mentions.push_fields.Goals as goal

pub loop-field-preserved : goal.loop-field-preserved
loop-field-preserved c = mapped (λ (f : MemberInfo). OfField (member_descriptor c.args.file.now f)) c.args.into.now c.loop-field.into c.push.new.self c.args.fields.now c.loop-field.field-index c.field-item.result _ (OfField c.in-Ok.descriptor) c.loop-field-test.true c.field-item.is c.loop-field.invariant (ap (λ (text : List ℕ). OfField text) (c.in-Ok.ensures ∙ c.member_descriptor.ensures)) c.in-Ok-push.ensures.ok

pub returns : goal.returns
returns c = all_mapped (λ (f : MemberInfo). OfField (member_descriptor c.args.file.now f)) c.args.into.now c.loop-field.into c.args.fields.now c.loop-field.field-index c.loop-field-test.false c.loop-field.invariant
