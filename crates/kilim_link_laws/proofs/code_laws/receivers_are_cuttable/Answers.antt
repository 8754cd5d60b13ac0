use Rattle.kilim_link_laws.proofs.code_laws.Receivers as receivers
use Rattle.kilim_link_laws.proofs.code_laws.receivers_are_cuttable.Goals as goal

pub returns : goal.returns
returns c = receivers.receivers_are_cuttable c.linked_in_parts.ensures
