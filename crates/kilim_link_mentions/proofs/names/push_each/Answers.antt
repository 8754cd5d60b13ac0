use Rattle.kilim_link_spec.specs.Types.{type_names}
use Rattle.kilim_link_mentions.proofs.Joined.{pushed, all_pushed}
use Rattle.kilim_link_mentions.proofs.names.push_each.Goals as goal

pub loop-found-preserved : goal.loop-found-preserved
loop-found-preserved c = pushed type_names c.args.into.now c.loop-found.into c.push_base.new.into c.args.types.now c.loop-found.found-index c.found-item.result c.loop-found-test.true c.found-item.is c.loop-found.invariant c.in-Ok.ensures

pub returns : goal.returns
returns c = all_pushed type_names c.args.into.now c.loop-found.into c.args.types.now c.loop-found.found-index c.loop-found-test.false c.loop-found.invariant
