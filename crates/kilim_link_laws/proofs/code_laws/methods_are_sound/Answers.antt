use Rattle.kilim_link_laws.proofs.code_laws.Methods as methods
use Rattle.kilim_link_laws.proofs.code_laws.methods_are_sound.Goals as goal

pub returns : goal.returns
returns c = methods.methods_are_sound c.linked_in_parts.ensures c.none_has_a_problem.ensures c.none_of_each_kind.ensures
