use Rattle.std.proofs.Common.{◌++◌}
use Rattle.std.specs.List.{flat_map}
use Rattle.kilim_lemmas.proofs.Lists.{of_item}
use Rattle.kilim_lemmas.proofs.Walks.{ahead, all_ahead}
use Rattle.kilim_class_attributes.specs.parts.Frames.{FrameIsSized, frame_text}
use Rattle.kilim_class_attributes.proofs.parts.frame_writing.push_each_frame.Goals as goal

pub loop-frame-preserved : goal.loop-frame-preserved
loop-frame-preserved c =
    ahead frame_text c.loop-frame.into.items c.push_frame.new.into.items (c.args.into.now.items ++ flat_map frame_text c.args.frames.now) c.args.frames.now c.loop-frame.frame-index c.frame-item.result _
    c.loop-frame-test.true c.frame-item.is c.loop-frame.invariant c.in-Ok.ensures

pub returns : goal.returns
returns c = all_ahead frame_text c.loop-frame.into.items (c.args.into.now.items ++ flat_map frame_text c.args.frames.now) c.args.frames.now c.loop-frame.frame-index c.loop-frame-test.false c.loop-frame.invariant

pub push_frame-requires : goal.push_frame-requires
push_frame-requires c = of_item FrameIsSized c.args.frames.now c.loop-frame.frame-index c.frame-item.result _ c.frame-item.is c.requires c.loop-frame-test.true
