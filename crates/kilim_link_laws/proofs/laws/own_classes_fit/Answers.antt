use Rattle.kilim_link_laws.proofs.OwnClasses as ownClasses
use Rattle.kilim_link_laws.proofs.laws.own_classes_fit.Goals as goal

pub returns : goal.returns
returns c = ownClasses.own_classes_fit_of c.linked_in_parts.ensures c.none_has_a_problem.ensures c.none_of_each_kind.ensures
