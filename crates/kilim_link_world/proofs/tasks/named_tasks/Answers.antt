use Rattle.std.proofs.Common.{codes}
use Rattle.std.specs.Str.{bytes_eq}
use Rattle.kilim_program.specs.declared.class.Class.{Class}
use Rattle.kilim_link_world.proofs.Loops.{mapped, all_mapped}
use Rattle.kilim_link_world.proofs.tasks.named_tasks.Goals as goal

pub loop-class-preserved : goal.loop-class-preserved
loop-class-preserved c = mapped (λ (class : Class). bytes_eq class.name (codes "kilim/Task")) c.loop-class.marks c.push.new.self c.args.classes.now c.loop-class.class-index c.class-item.result _ c.is_text.result c.loop-class-test.true c.class-item.is c.loop-class.invariant c.is_text.ensures c.in-Ok.ensures.ok

pub returns : goal.returns
returns c = all_mapped (λ (class : Class). bytes_eq class.name (codes "kilim/Task")) c.loop-class.marks c.args.classes.now c.loop-class.class-index c.loop-class-test.false c.loop-class.invariant
