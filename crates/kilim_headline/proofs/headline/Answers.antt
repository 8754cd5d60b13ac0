use Rattle.kilim_headline.proofs.Told.{ends, made}
use Rattle.kilim_headline.proofs.headline.Goals as goal

pub returns-clause-ends : goal.returns-clause-ends
returns-clause-ends g c = ends _ _ _ _ _ c.kilim_in_memory.result c.kilim_in_memory.ensures.promises

pub returns-clause-made : goal.returns-clause-made
returns-clause-made g c = made _ _ c.kilim_in_memory.result c.kilim_in_memory.ensures.complete
