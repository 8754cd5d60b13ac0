use Rattle.kilim_link_laws.proofs.code_laws.Catches as tables
use Rattle.kilim_link_laws.proofs.code_laws.catches_are_there.Goals as goal

pub returns : goal.returns
returns c = tables.catches_are_there c.linked_in_parts.ensures
