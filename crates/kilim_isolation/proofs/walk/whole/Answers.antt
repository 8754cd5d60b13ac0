use Rattle.std.proofs.Common.{subst}
use Rattle.kilim_program.specs.Keeps.{Keeps}
use Rattle.kilim_program.specs.Program.{Program}
use Rattle.kilim_isolation.proofs.Inside as inside
use Rattle.kilim_isolation.proofs.walk.whole.Goals as goal

pub returns : goal.returns
returns c =
    let keeps : Keeps c.args.program.now = subst (λ (p : Program). Keeps p) c.program.view_is c.program.invariant in
    inside.whole c.args.program.now c.args.id c.args.method.now keeps c.requires
