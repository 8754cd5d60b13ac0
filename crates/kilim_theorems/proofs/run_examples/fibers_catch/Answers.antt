use Rattle.kilim_theorems.proofs.run_examples.FibersCatch.{fibers_catch}
use Rattle.kilim_theorems.proofs.run_examples.fibers_catch.Goals as goal

pub returns : goal.returns
returns c = fibers_catch
