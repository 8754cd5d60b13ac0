use Rattle.kilim_stages.proofs.woven_stage.Never.{never}
use Rattle.kilim_stages.proofs.woven_stage.laws.woven_is_not_reported.Goals as goal

pub returns : goal.returns
returns c = never c.one_program_of.ensures c.never_both.ensures
