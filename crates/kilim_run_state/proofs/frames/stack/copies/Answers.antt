use Rattle.std.proofs.Common.{◌∙◌, arith}
use Rattle.std.proofs.lemmas.List.{take_all}
use Rattle.kilim_run_state.proofs.frames.Loops.{copied}
use Rattle.kilim_run_state.proofs.frames.stack.copies.Goals as goal

pub loop-value-preserved : goal.loop-value-preserved
loop-value-preserved c =
    copied c.loop-value.copies c.append_copy.new.into c.args.values.now c.loop-value.value-index c.value-item.result _ c.loop-value-test.true c.value-item.is c.loop-value.invariant c.in-Ok-append_copy.ensures

pub returns : goal.returns
returns c = c.into_vec.ensures ∙ (c.loop-value.invariant ∙ take_all c.loop-value.value-index c.args.values.now (omega arith))
