use Rattle.std.proofs.Common.{◌++◌, get_or, refl}
use Rattle.std.specs.List.{flat_map}
use Rattle.kilim_lemmas.proofs.Walks.{ahead, all_made}
use Rattle.kilim_class_builder.specs.Frames.{array_names}
use Rattle.kilim_class_builder.proofs.frames.push_arrays.Goals as goal

pub loop-of-preserved : goal.loop-of-preserved
loop-of-preserved c =
    let f = array_names c.args.pool.now in
    ahead f c.loop-of.names.items c.push_array.new.names.items (c.args.names.now.items ++ flat_map f c.args.types.now) c.args.types.now c.loop-of.of-index (get_or c.args.types.now c.loop-of.of-index _) _
    c.loop-of-test.true refl c.loop-of.invariant c.in_ok-push_array.ensures

pub returns : goal.returns
returns c =
    let f = array_names c.args.pool.now in
    all_made (flat_map f) c.loop-of.names.items (c.args.names.now.items ++ flat_map f c.args.types.now) c.args.types.now c.loop-of.of-index refl c.loop-of-test.false c.loop-of.invariant
