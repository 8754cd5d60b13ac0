use Rattle.kilim_link_laws.proofs.Bared as bared
use Rattle.kilim_link_laws.proofs.laws.bared_agrees.Goals as goal

pub returns : goal.returns
returns c = bared.bared_agrees
