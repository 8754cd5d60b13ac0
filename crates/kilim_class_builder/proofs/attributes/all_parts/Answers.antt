use Rattle.std.proofs.Common.{get_or, refl}
use Rattle.std.specs.List.{flat_map}
use Rattle.kilim_lemmas.proofs.Walks.{ahead, all_made}
use Rattle.kilim_class_builder.specs.Members.{all_parts, parameter_parts}
use Rattle.kilim_class_builder.proofs.attributes.all_parts.Goals as goal

pub loop-q-preserved : goal.loop-q-preserved
loop-q-preserved c =
    let f = parameter_parts c.args.types.free c.args.types.cuttable c.args.types.safe in
    ahead f c.loop-q.parts.items c.push_parameter.new.parts.items (all_parts c.args.types.free c.args.types.cuttable c.args.types.safe c.args.qs.now) c.args.qs.now c.loop-q.q-index (get_or c.args.qs.now c.loop-q.q-index _) _
    c.loop-q-test.true refl c.loop-q.invariant c.in_ok-push_parameter.ensures

pub returns : goal.returns
returns c =
    let f = parameter_parts c.args.types.free c.args.types.cuttable c.args.types.safe in
    rw c.from_vec.ensures (all_made (flat_map f) c.loop-q.parts.items (all_parts c.args.types.free c.args.types.cuttable c.args.types.safe c.args.qs.now) c.args.qs.now c.loop-q.q-index refl c.loop-q-test.false c.loop-q.invariant)
