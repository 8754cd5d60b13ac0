use Rattle.std.proofs.Common.{◌++◌, get_or, refl, ◌∙◌, ap}
use Rattle.kilim_lemmas.proofs.Walks.{ahead, all_ahead}
use Rattle.kilim_class_attributes.specs.parts.Annotations.{part_text, parts_text}
use Rattle.kilim_class_attributes.proofs.parts.annotation_writing.push_parts.Goals as goal

pub loop-part-preserved : goal.loop-part-preserved
loop-part-preserved c =
    ahead part_text c.loop-part.into.items c.push_part.new.into.items (c.args.into.now.items ++ parts_text c.as_slice-part-items.result.now) c.as_slice-part-items.result.now c.loop-part.part-index (get_or c.as_slice-part-items.result.now c.loop-part.part-index _) _
    c.loop-part-test.true refl c.loop-part.invariant c.in-Ok.ensures

pub returns : goal.returns
returns c =
    all_ahead part_text c.loop-part.into.items (c.args.into.now.items ++ parts_text c.as_slice-part-items.result.now) c.as_slice-part-items.result.now c.loop-part.part-index c.loop-part-test.false c.loop-part.invariant
    ∙ ap (λ xs. c.args.into.now.items ++ parts_text xs) c.as_slice-part-items.ensures
