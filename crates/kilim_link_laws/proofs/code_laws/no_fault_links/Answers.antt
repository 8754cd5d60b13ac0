use Rattle.kilim_link_laws.proofs.code_laws.ProgramThere as program
use Rattle.kilim_link_laws.proofs.code_laws.no_fault_links.Goals as goal

pub returns : goal.returns
returns c = program.no_fault_links c.targets_are_places.ensures c.none_has_a_problem.ensures c.none_of_each_kind.ensures
