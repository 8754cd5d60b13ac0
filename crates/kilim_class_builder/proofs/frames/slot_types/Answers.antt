use Rattle.std.proofs.Common.{get_or, map, refl}
use Rattle.kilim_lemmas.proofs.Walks.{all_made}
use Rattle.kilim_class_builder.specs.Frames.{slot_type}
use Rattle.kilim_class_builder.proofs.Loops.{mapped_ahead}
use Rattle.kilim_class_builder.proofs.frames.slot_types.Goals as goal

pub loop-of-preserved : goal.loop-of-preserved
loop-of-preserved c =
    let f = slot_type c.args.pool.now in
    mapped_ahead f c.loop-of.all.items c.push.new.self.items (map f c.args.types.now) c.args.types.now c.loop-of.of-index (get_or c.args.types.now c.loop-of.of-index _) _ c.in_ok-slot_type.field-0
    c.loop-of-test.true refl c.loop-of.invariant c.in_ok-slot_type.ensures c.in_ok-push.ensures.items

pub returns : goal.returns
returns c =
    let f = slot_type c.args.pool.now in
    rw c.from_vec.ensures (all_made (map f) c.loop-of.all.items (map f c.args.types.now) c.args.types.now c.loop-of.of-index refl c.loop-of-test.false c.loop-of.invariant)
