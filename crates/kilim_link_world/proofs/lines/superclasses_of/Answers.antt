use Rattle.std.proofs.Common.{refl}
use Rattle.kilim_program.specs.declared.class.Class.{Class}
use Rattle.kilim_link_world.proofs.Loops.{mapped, all_mapped}
use Rattle.kilim_link_world.proofs.lines.superclasses_of.Goals as goal

pub loop-class-preserved : goal.loop-class-preserved
loop-class-preserved c = mapped (λ (class : Class). class.superclass) c.loop-class.ups c.push.new.self c.args.classes.now c.loop-class.class-index c.class-item.result _ c.class-item.result.superclass c.loop-class-test.true c.class-item.is c.loop-class.invariant refl c.in-Ok.ensures.ok

pub returns : goal.returns
returns c = all_mapped (λ (class : Class). class.superclass) c.loop-class.ups c.args.classes.now c.loop-class.class-index c.loop-class-test.false c.loop-class.invariant
