use Rattle.std.proofs.Common.{map}
use Rattle.kilim_link_spec.specs.Mentions.{types_mentioned}
use Rattle.kilim_link_file_faults.specs.Shapes.{shape_of}
use Rattle.kilim_link_file_faults.proofs.Loops.{pushed, all_pushed}
use Rattle.kilim_link_file_faults.proofs.types.push_types_of_each.Goals as goal

pub loop-mention-preserved : goal.loop-mention-preserved
loop-mention-preserved c = pushed (λ m. map shape_of (types_mentioned m)) c.args.into.now.items c.loop-mention.into.items c.push_types.new.into.items c.args.mentions.now c.loop-mention.mention-index c.mention-item.result c.loop-mention-test.true c.mention-item.is c.loop-mention.invariant c.in-Ok.ensures

pub returns : goal.returns
returns c = all_pushed (λ m. map shape_of (types_mentioned m)) c.args.into.now.items c.loop-mention.into.items c.args.mentions.now c.loop-mention.mention-index c.loop-mention-test.false c.loop-mention.invariant
