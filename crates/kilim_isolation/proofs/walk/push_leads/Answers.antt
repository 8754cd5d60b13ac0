use Rattle.std.proofs.Common.{None, refl, arith}
use Rattle.kilim_isolation_paths.specs.declared.machine.Exit.TheVariants as exit
use Rattle.kilim_isolation.proofs.Loops.{mapped_end, mapped_on}
use Rattle.kilim_isolation.proofs.walk.push_leads.Goals as goal

pub loop-to-preserved : goal.loop-to-preserved
loop-to-preserved c = mapped_on exit.To c.loop-to.exits c.push.new.self _ c.args.places.now c.loop-to.to-index _ None _ c.loop-to-test.true refl c.loop-to.invariant refl c.in-Ok.ensures.ok

pub returns : goal.returns
returns c = mapped_end exit.To c.loop-to.exits _ c.args.places.now c.loop-to.to-index (omega arith) c.loop-to.invariant
