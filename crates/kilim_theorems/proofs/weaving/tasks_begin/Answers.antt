use Rattle.kilim_fiber_laws.proofs.Begins.{tasks_begin}
use Rattle.kilim_theorems.proofs.weaving.tasks_begin.Goals as goal

pub returns : goal.returns
returns c = tasks_begin
