use Rattle.std.proofs.Common.{◌∙◌, ◌++◌, List, ap, arith}
use Rattle.std.proofs.lemmas.List.{take_all}
use Rattle.kilim_program.specs.declared.value.Value.{Value}
use Rattle.kilim_run_state.specs.Machine.{slots_of}
use Rattle.kilim_run_state.proofs.frames.Slots.{laid_more}
use Rattle.kilim_run_state.proofs.frames.frame.lay.Goals as goal

pub loop-value-preserved : goal.loop-value-preserved
loop-value-preserved c =
    laid_more c.args.items.now.items c.loop-value.items.items c.lay_one.new.items.items c.args.arguments.now c.loop-value.value-index c.value-item.result _ c.loop-value-test.true c.value-item.is c.loop-value.invariant c.in-Ok.ensures

pub returns : goal.returns
returns c = c.loop-value.invariant ∙ ap (λ (zs : List Value). c.args.items.now.items ++ slots_of zs) (take_all c.loop-value.value-index c.args.arguments.now (omega arith))
