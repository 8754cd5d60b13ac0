use Rattle.std.proofs.Common.{subst}
use Rattle.kilim_program.specs.Keeps.{Keeps}
use Rattle.kilim_program.specs.Program.{Program}
use Rattle.kilim_program.proofs.lookups.Rising as rising
use Rattle.kilim_program.proofs.lookups.code.code_rises.Goals as goal

pub returns : goal.returns
returns c =
    let keeps : Keeps c.args.program.now = subst (λ (p : Program). Keeps p) c.program.view_is c.program.invariant in
    rising.code_rises c.args.program.now c.args.id c.args.method.now keeps c.requires
