use Rattle.kilim_isolation_laws.proofs.sorts.Keeping.{program_keeps}
use Rattle.kilim_isolation_laws.proofs.sorts.programs_keep.Goals as goal

pub returns : goal.returns
returns c = λ p keeps. program_keeps p keeps
