use Rattle.kilim_link_laws.proofs.code_laws.WholeCode as whole
use Rattle.kilim_link_laws.proofs.code_laws.code_is_whole.Goals as goal

pub returns : goal.returns
returns c = whole.code_is_whole_there c.one_spelling.ensures c.lengths.ensures c.targets_are_places.ensures c.linked_in_parts.ensures
