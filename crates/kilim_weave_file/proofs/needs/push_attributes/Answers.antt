use Rattle.std.proofs.Common.{◌++◌, refl}
use Rattle.std.specs.List.{flat_map}
use Rattle.kilim_lemmas.proofs.Walks.{ahead, all_made}
use Rattle.kilim_class_attributes.specs.declared.attribute.Attribute.{Attribute}
use Rattle.kilim_weave_file_spec.specs.WovenFile.{info_needs}
use Rattle.kilim_weave_file.proofs.needs.push_attributes.Goals as goal

pub loop-attribute-preserved : goal.loop-attribute-preserved
loop-attribute-preserved c =
    let f = λ (a : Attribute). info_needs c.args.program.now c.args.pool.now c.args.method.now c.args.counted.now a.info in
    ahead f c.loop-attribute.into c.push_info.new.into (c.args.into.now ++ flat_map f c.args.attributes.now) c.args.attributes.now c.loop-attribute.attribute-index c.attribute-item.result _
    c.loop-attribute-test.true c.attribute-item.is c.loop-attribute.invariant c.in-Ok.ensures

pub returns : goal.returns
returns c =
    let f = λ (a : Attribute). info_needs c.args.program.now c.args.pool.now c.args.method.now c.args.counted.now a.info in
    all_made (flat_map f) c.loop-attribute.into (c.args.into.now ++ flat_map f c.args.attributes.now) c.args.attributes.now c.loop-attribute.attribute-index refl c.loop-attribute-test.false c.loop-attribute.invariant
