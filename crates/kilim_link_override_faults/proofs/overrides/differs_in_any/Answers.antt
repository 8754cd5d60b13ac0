use Rattle.std.proofs.Common.{refl}
use Rattle.kilim_link_override_faults.specs.Parts.{differs_in}
use Rattle.kilim_link_override_faults.proofs.Firsts.{any_at, none_at, none_passes}
use Rattle.kilim_link_override_faults.proofs.overrides.differs_in_any.Goals as goal

pub returns-in-Ok-true : goal.returns-in-Ok-true
returns-in-Ok-true c = any_at (differs_in c.args.world.now c.args.class c.args.method.now) c.args.ancestors.now c.loop-above.above-index _ _ c.in-Ok-true.field-0 c.loop-above-test.true refl c.in-Ok-true.ensures _ c.loop-above.invariant c.in-Ok-true.field-0-test

pub loop-above-preserved : goal.loop-above-preserved
loop-above-preserved c = none_at (differs_in c.args.world.now c.args.class c.args.method.now) c.args.ancestors.now c.loop-above.above-index _ _ c.in-Ok-false.field-0 c.loop-above-test.true refl c.in-Ok-false.ensures _ c.loop-above.invariant c.in-Ok-false.field-0-test

pub returns : goal.returns
returns c = none_passes (differs_in c.args.world.now c.args.class c.args.method.now) c.args.ancestors.now c.loop-above.above-index _ c.loop-above-test.false c.loop-above.invariant
