use Rattle.std.specs.List.{flat_map}
use Rattle.kilim_link_spec.specs.Mentions.{mentions_of_slot, slots_of_frame}
use Rattle.kilim_link_mentions.proofs.Joined.{pushed, all_pushed}
use Rattle.kilim_link_mentions.proofs.frames.push_each_frame.Goals as goal

pub loop-frame-preserved : goal.loop-frame-preserved
loop-frame-preserved c = pushed (λ f. flat_map (mentions_of_slot c.args.pool.now) (slots_of_frame f)) c.args.into.now c.loop-frame.into c.push_frame.new.into c.args.frames.now c.loop-frame.frame-index c.frame-item.result c.loop-frame-test.true c.frame-item.is c.loop-frame.invariant c.in-Ok.ensures

pub returns : goal.returns
returns c = all_pushed (λ f. flat_map (mentions_of_slot c.args.pool.now) (slots_of_frame f)) c.args.into.now c.loop-frame.into c.args.frames.now c.loop-frame.frame-index c.loop-frame-test.false c.loop-frame.invariant
