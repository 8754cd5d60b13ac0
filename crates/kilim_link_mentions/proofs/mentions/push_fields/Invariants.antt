use Rattle.std.proofs.Common.{◌≡◌, ◌++◌, map, take}
use Rattle.kilim_link_spec.specs.declared.named.Mention.TheVariants.{OfField}
use Rattle.kilim_link_spec.specs.World.{member_descriptor}
use Rattle.kilim_link_mentions.proofs.mentions.push_fields.Given as goal

abbrev pub invariant-loop-field : goal.invariant-loop-field
invariant-loop-field l = l.into ≡ l.fn.into ++ map (λ f. OfField (member_descriptor l.file f)) (take l.field-index l.fields)
