use Rattle.kilim_program.proofs.BrokenPrograms.{facts_are_broken}
use Rattle.kilim_program.proofs.laws.facts_are_broken.Goals as goal

pub returns : goal.returns
returns c = facts_are_broken
