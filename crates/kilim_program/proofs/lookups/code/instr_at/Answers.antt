use Rattle.std.proofs.Common.{◌≡◌, arith}
use Rattle.kilim_program.proofs.lookups.Numbers.{here}
use Rattle.kilim_program.proofs.lookups.code.instr_at.Goals as goal

pub returns-clause-found : goal.returns-clause-found
returns-clause-found c =
    let e = here c.args.code.now c.args.end c.args.at c.entry_at-entry.result.now c.requires.rising c.entry_at-entry.ensures in
    grind (arith, e, c.place_after-next.ensures)
