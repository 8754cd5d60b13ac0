use Rattle.kilim_link_spec.specs.Mentions.{names_mentioned}
use Rattle.kilim_link_mentions.proofs.Joined.{pushed, all_pushed}
use Rattle.kilim_link_mentions.proofs.names.push_names_of_each.Goals as goal

pub loop-mention-preserved : goal.loop-mention-preserved
loop-mention-preserved c = pushed names_mentioned c.args.into.now c.loop-mention.into c.push_names.new.into c.args.mentions.now c.loop-mention.mention-index c.mention-item.result c.loop-mention-test.true c.mention-item.is c.loop-mention.invariant c.in-Ok.ensures

pub returns : goal.returns
returns c = all_pushed names_mentioned c.args.into.now c.loop-mention.into c.args.mentions.now c.loop-mention.mention-index c.loop-mention-test.false c.loop-mention.invariant
