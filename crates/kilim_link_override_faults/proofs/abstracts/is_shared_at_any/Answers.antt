use Rattle.std.proofs.Common.{refl}
use Rattle.kilim_link_override_faults.specs.Parts.{is_shared, passes_at}
use Rattle.kilim_link_override_faults.proofs.Firsts.{any_at, none_at, none_passes}
use Rattle.kilim_link_override_faults.proofs.abstracts.is_shared_at_any.Goals as goal

pub returns-then-is_shared_at : goal.returns-then-is_shared_at
returns-then-is_shared_at c = any_at (passes_at is_shared c.args.methods.now) c.args.places.now c.loop-place.place-index _ _ c.is_shared_at.result c.loop-place-test.true refl c.is_shared_at.ensures _ c.loop-place.invariant c.if-is_shared_at.true

pub loop-place-preserved : goal.loop-place-preserved
loop-place-preserved c = none_at (passes_at is_shared c.args.methods.now) c.args.places.now c.loop-place.place-index _ _ c.is_shared_at.result c.loop-place-test.true refl c.is_shared_at.ensures _ c.loop-place.invariant c.if-is_shared_at.false

pub returns : goal.returns
returns c = none_passes (passes_at is_shared c.args.methods.now) c.args.places.now c.loop-place.place-index _ c.loop-place-test.false c.loop-place.invariant
