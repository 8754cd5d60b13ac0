use Rattle.std.proofs.Common.{◌≡◌, arith}
use Rattle.kilim_program.proofs.lookups.Numbers.{first_at}
use Rattle.kilim_program.proofs.lookups.code.number_at.Goals as goal

pub returns-then-entry-place-clause-place : goal.returns-then-entry-place-clause-place
returns-then-entry-place-clause-place c =
    let e = first_at c.args.code.now c.args.end c.args.hint c.entry_at-entry.result.now c.entry_at-entry.ensures in
    grind (arith, e, c.if-entry-place.true)
