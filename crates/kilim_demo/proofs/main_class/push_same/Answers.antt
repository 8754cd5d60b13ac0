use Rattle.std.proofs.Common.{get_or, refl, ◌∙◌, ◌++◌, ap, map}
use Rattle.std.proofs.lemmas.List.{take_all}
use Rattle.kilim_class_attributes.specs.declared.parts.frame.Frame.TheVariants.{Same}
use Rattle.kilim_demo.proofs.Loops.{more}
use Rattle.kilim_demo.proofs.main_class.push_same.Goals as goal

pub loop-delta-preserved : goal.loop-delta-preserved
loop-delta-preserved c =
    more Same c.args.frames.now c.loop-delta.frames c.push.new.self c.args.deltas.now c.loop-delta.delta-index (get_or c.args.deltas.now c.loop-delta.delta-index 0) 0 (Same (get_or c.args.deltas.now c.loop-delta.delta-index 0))
    c.loop-delta-test.true refl c.loop-delta.invariant refl c.in-Ok.ensures.ok

pub returns : goal.returns
returns c = c.loop-delta.invariant ∙ ap (λ xs. c.args.frames.now ++ map Same xs) (take_all c.loop-delta.delta-index c.args.deltas.now c.loop-delta-test.false)
