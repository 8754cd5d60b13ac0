use Rattle.kilim_link_spec.specs.Mentions.{mentions_of_method}
use Rattle.kilim_link_mentions.proofs.Joined.{pushed, all_pushed}
use Rattle.kilim_link_mentions.proofs.mentions.push_methods.Goals as goal

pub loop-method-preserved : goal.loop-method-preserved
loop-method-preserved c = pushed (mentions_of_method c.args.file.now) c.args.into.now c.loop-method.into c.push_method.new.into c.args.methods.now c.loop-method.method-index c.method-item.result c.loop-method-test.true c.method-item.is c.loop-method.invariant c.in-Ok.ensures

pub returns : goal.returns
returns c = all_pushed (mentions_of_method c.args.file.now) c.args.into.now c.loop-method.into c.args.methods.now c.loop-method.method-index c.loop-method-test.false c.loop-method.invariant
