use Rattle.kilim_fiber_laws.proofs.courses.Known.{known}
use Rattle.kilim_theorems.proofs.weaving.courses.known_of_courses.Goals as goal

pub returns : goal.returns
returns c = λ set typing wanted live is main kept W marks form first begins few stands rest. known set typing wanted live is main kept W marks form first begins few stands rest
