use Rattle.kilim_link_laws.proofs.FieldKinds as fieldKinds
use Rattle.kilim_link_laws.proofs.laws.fields_fit.Goals as goal

pub returns : goal.returns
returns c = fieldKinds.fields_fit_of c.linked_in_parts.ensures c.none_has_a_problem.ensures c.none_of_each_kind.ensures
