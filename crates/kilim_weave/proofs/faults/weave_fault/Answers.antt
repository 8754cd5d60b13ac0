use Rattle.std.proofs.Common.{◌∙◌, sym, arith}
use Rattle.kilim_weave.proofs.Searching.{class_is_first, class_skipped, no_class_is_first}
use Rattle.kilim_weave.proofs.faults.weave_fault.Goals as goal

pub returns-in-Ok-Some : goal.returns-in-Ok-Some
returns-in-Ok-Some c = class_is_first c.args.program.now c.loop-at.at c.class_at-class.result.now c.in-Ok-Some.found c.class_at-class.ensures (sym c.in-Ok-Some.field-0-is ∙ c.in-Ok-Some.ensures) c.loop-at.invariant

pub loop-at-preserved : goal.loop-at-preserved
loop-at-preserved c = class_skipped c.args.program.now c.loop-at.at c.class_at-class.result.now c.class_at-class.ensures (sym c.in-Ok-None.field-0-is ∙ c.in-Ok-None.ensures) c.loop-at.invariant

pub returns : goal.returns
returns c = no_class_is_first c.args.program.now c.loop-at.at (omega (arith, c.count_of-count.ensures)) c.loop-at.invariant
