use Rattle.std.proofs.Common.{◌∙◌, ap, arith}
use Rattle.std.proofs.lemmas.List.{take_all}
use Rattle.kilim_weave_spec.specs.Weight.{calls_in}
use Rattle.kilim_weave_code.proofs.Pieces.{calls_more}
use Rattle.kilim_weave_code.proofs.count.calls_in.Goals as goal

pub loop-at-preserved : goal.loop-at-preserved
loop-at-preserved c =
    calls_more c.args.program.now c.args.code.now c.loop-at.at c.loop-at.count c.in-Ok.more c.entry_at-entry.result.now _ c.entry_at-entry.ensures c.pausable_callee-callee.ensures c.in-Ok.ensures c.loop-at.invariant

pub returns : goal.returns
returns c = c.loop-at.invariant ∙ ap (calls_in c.args.program.now) (take_all c.loop-at.at c.args.code.now (omega arith))
