use Rattle.kilim_class_descriptors.proofs.Names.{goes_on}
use Rattle.kilim_class_descriptors.proofs.fields.split_name.Goals as goal

pub loop-at-preserved : goal.loop-at-preserved
loop-at-preserved c = goes_on c.args.units.now c.loop-at.at c.loop-at-test.true c.if-unit-eq59.false c.loop-at.invariant
