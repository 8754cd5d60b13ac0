use Rattle.std.proofs.Common.{refl}
use Rattle.kilim_link_override_faults.specs.Parts.{stands_in}
use Rattle.kilim_link_override_faults.proofs.Firsts.{any_at, none_at, none_passes}
use Rattle.kilim_link_override_faults.proofs.abstracts.stands_in_any.Goals as goal

pub returns-then-stands_in : goal.returns-then-stands_in
returns-then-stands_in c = any_at (stands_in c.args.world.now c.args.signature.now.name c.args.signature.now.descriptor) c.args.classes.now c.loop-class.class-index _ _ c.stands_in.result c.loop-class-test.true refl c.stands_in.ensures _ c.loop-class.invariant c.if-stands_in.true

pub loop-class-preserved : goal.loop-class-preserved
loop-class-preserved c = none_at (stands_in c.args.world.now c.args.signature.now.name c.args.signature.now.descriptor) c.args.classes.now c.loop-class.class-index _ _ c.stands_in.result c.loop-class-test.true refl c.stands_in.ensures _ c.loop-class.invariant c.if-stands_in.false

pub returns : goal.returns
returns c = none_passes (stands_in c.args.world.now c.args.signature.now.name c.args.signature.now.descriptor) c.args.classes.now c.loop-class.class-index _ c.loop-class-test.false c.loop-class.invariant
