use Rattle.kilim_top.proofs.Steady.{complete, reported, steady}
use Rattle.kilim_top.proofs.top.kilim_in_memory.Goals as goal

pub returns-clause-one_of : goal.returns-clause-one_of
returns-clause-one_of g c = steady _ _ _ _ _ c.kilim_alone.result c.kilim_alone.ensures.promises

pub returns-clause-complete : goal.returns-clause-complete
returns-clause-complete g c = complete _ _ _ _ _ c.kilim_alone.result c.kilim_alone.ensures.promises

pub returns-clause-reported : goal.returns-clause-reported
returns-clause-reported g c = reported _ _ _ _ _ c.kilim_alone.result c.kilim_alone.ensures.promises
