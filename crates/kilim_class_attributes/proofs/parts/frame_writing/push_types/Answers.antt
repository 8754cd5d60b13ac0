use Rattle.std.proofs.Common.{◌++◌, get_or, refl}
use Rattle.kilim_lemmas.proofs.Walks.{ahead, all_ahead}
use Rattle.kilim_class_attributes.specs.parts.Frames.{type_text, types_text}
use Rattle.kilim_class_attributes.proofs.parts.frame_writing.push_types.Goals as goal

pub loop-item-preserved : goal.loop-item-preserved
loop-item-preserved c =
    ahead type_text c.loop-item.into.items c.push_type.new.into.items (c.args.into.now.items ++ types_text c.args.types.now) c.args.types.now c.loop-item.item-index (get_or c.args.types.now c.loop-item.item-index _) _
    c.loop-item-test.true refl c.loop-item.invariant c.in-Ok.ensures

pub returns : goal.returns
returns c = all_ahead type_text c.loop-item.into.items (c.args.into.now.items ++ types_text c.args.types.now) c.args.types.now c.loop-item.item-index c.loop-item-test.false c.loop-item.invariant
