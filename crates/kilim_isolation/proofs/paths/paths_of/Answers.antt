use Rattle.std.proofs.Common.{sym}
use Rattle.kilim_isolation.proofs.paths.paths_of.Goals as goal

pub whole-requires : goal.whole-requires
whole-requires c = sym c.in-Some.ensures
