use Rattle.std.proofs.Common.{◌∙◌, sym, arith}
use Rattle.kilim_weave.proofs.Searching.{is_first, none_is_first, skipped}
use Rattle.kilim_weave.proofs.faults.first_of.Goals as goal

pub returns-in-Ok-Some : goal.returns-in-Ok-Some
returns-in-Ok-Some c = is_first c.args.program.now c.args.ids.now c.loop-at.at c.id_at-id.result c.in-Ok-Some.found c.id_at-id.ensures (sym c.in-Ok-Some.ensures ∙ c.in-Ok-Some.field-0-is) c.loop-at.invariant

pub loop-at-preserved : goal.loop-at-preserved
loop-at-preserved c = skipped c.args.program.now c.args.ids.now c.loop-at.at c.id_at-id.result c.id_at-id.ensures (sym c.in-Ok-None.ensures ∙ c.in-Ok-None.field-0-is) c.loop-at.invariant

pub returns : goal.returns
returns c = none_is_first c.args.program.now c.args.ids.now c.loop-at.at (omega arith) c.loop-at.invariant
