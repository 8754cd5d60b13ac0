use Rattle.std.proofs.Common.{subst}
use Rattle.kilim_program.specs.Keeps.{Keeps}
use Rattle.kilim_program.specs.Program.{Program}
use Rattle.kilim_replay.proofs.kept.keeps.Goals as goal

pub returns : goal.returns
returns c = subst (λ (p : Program). Keeps p) c.program.view_is c.program.invariant
