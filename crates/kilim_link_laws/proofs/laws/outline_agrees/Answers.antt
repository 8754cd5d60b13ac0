use Rattle.kilim_link_laws.proofs.Bridge as bridge
use Rattle.kilim_link_laws.proofs.laws.outline_agrees.Goals as goal

pub returns : goal.returns
returns c = bridge.agrees c.bared_agrees.ensures c.outline_is_bared.ensures
