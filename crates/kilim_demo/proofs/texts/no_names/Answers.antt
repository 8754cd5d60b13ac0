use Rattle.kilim_demo.proofs.Loops.{one_longer}
use Rattle.kilim_demo.proofs.texts.no_names.Goals as goal

pub loop-preserved : goal.loop-preserved
loop-preserved c = one_longer c.loop.names c.push.new.self c.loop.counter _ c.loop.invariant c.in-Ok.ensures.ok
