use Rattle.std.proofs.Common.{refl}
use Rattle.kilim_link_spec.specs.World.{declared_methods}
use Rattle.kilim_link_override_faults.specs.Parts.{other_differs, passes_at}
use Rattle.kilim_link_override_faults.proofs.Firsts.{any_at, none_at, none_passes}
use Rattle.kilim_link_override_faults.proofs.overrides.differs_at_any.Goals as goal

pub returns-in-Ok-true : goal.returns-in-Ok-true
returns-in-Ok-true c = any_at (passes_at (other_differs c.args.world.now c.args.class c.args.method.now c.args.above) (declared_methods c.args.world.now c.args.above)) c.args.places.now c.loop-place.place-index _ _ c.in-Ok-true.field-0 c.loop-place-test.true refl c.in-Ok-true.ensures _ c.loop-place.invariant c.in-Ok-true.field-0-test

pub loop-place-preserved : goal.loop-place-preserved
loop-place-preserved c = none_at (passes_at (other_differs c.args.world.now c.args.class c.args.method.now c.args.above) (declared_methods c.args.world.now c.args.above)) c.args.places.now c.loop-place.place-index _ _ c.in-Ok-false.field-0 c.loop-place-test.true refl c.in-Ok-false.ensures _ c.loop-place.invariant c.in-Ok-false.field-0-test

pub returns : goal.returns
returns c = none_passes (passes_at (other_differs c.args.world.now c.args.class c.args.method.now c.args.above) (declared_methods c.args.world.now c.args.above)) c.args.places.now c.loop-place.place-index _ c.loop-place-test.false c.loop-place.invariant
