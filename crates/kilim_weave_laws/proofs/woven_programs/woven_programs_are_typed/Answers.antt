use Rattle.kilim_weave_laws.proofs.woven_programs.Theorem.{woven_programs}
use Rattle.kilim_weave_laws.proofs.woven_programs.woven_programs_are_typed.Goals as goal

pub returns : goal.returns
returns c = woven_programs
