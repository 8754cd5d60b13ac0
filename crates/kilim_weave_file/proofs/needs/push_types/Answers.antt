use Rattle.std.proofs.Common.{◌++◌, get_or, refl}
use Rattle.std.specs.List.{flat_map}
use Rattle.kilim_lemmas.proofs.Walks.{ahead, all_made}
use Rattle.kilim_weave_file_spec.specs.FullFrames.{type_needs}
use Rattle.kilim_weave_file.proofs.needs.push_types.Goals as goal

pub loop-ty-preserved : goal.loop-ty-preserved
loop-ty-preserved c =
    let f = type_needs c.args.program.now in
    ahead f c.loop-ty.into c.push_type.new.into (c.args.into.now ++ flat_map f c.args.types.now) c.args.types.now c.loop-ty.ty-index (get_or c.args.types.now c.loop-ty.ty-index _) _
    c.loop-ty-test.true refl c.loop-ty.invariant c.in-Ok.ensures

pub returns : goal.returns
returns c =
    let f = type_needs c.args.program.now in
    all_made (flat_map f) c.loop-ty.into (c.args.into.now ++ flat_map f c.args.types.now) c.args.types.now c.loop-ty.ty-index refl c.loop-ty-test.false c.loop-ty.invariant
