use Rattle.std.proofs.Common.{◌≡◌, ◌∙◌, arith}
use Rattle.kilim_program.proofs.lookups.Numbers.{first_at, passed}
use Rattle.kilim_program.proofs.lookups.code.search.Goals as goal

pub returns-then-entry-place-clause-place : goal.returns-then-entry-place-clause-place
returns-then-entry-place-clause-place c =
    let e = first_at c.args.code.now c.args.end c.loop-at.at c.entry_at-entry.result.now c.entry_at-entry.ensures in
    grind (arith, e, c.if-entry-place.true)

pub loop-at-preserved : goal.loop-at-preserved
loop-at-preserved c =
    passed c.args.code.now c.args.end c.args.place c.loop-at.at c.entry_at-entry.result.now c.entry_at-entry.ensures (grind (arith, c.if-entry-place.false)) ∙ c.loop-at.invariant
