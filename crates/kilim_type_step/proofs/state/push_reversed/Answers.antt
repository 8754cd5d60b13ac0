use Rattle.std.proofs.Common.{◌∙◌, arith}
use Rattle.kilim_type_step.proofs.Shuffled.{reversed_none, reversed_on}
use Rattle.kilim_type_step.proofs.state.push_reversed.Goals as goal

pub loop-left-preserved : goal.loop-left-preserved
loop-left-preserved c = (
  omega arith,
  c.in-Ok.ensures.items ∙ reversed_on c.args.stack.now.items c.loop-left.stack.items c.args.types.now c.loop-left.left c.loop-left-test.true c.loop-left.invariant.0 c.loop-left.invariant.1,
)

pub returns : goal.returns
returns c = c.loop-left.invariant.1 ∙ reversed_none c.args.stack.now.items c.args.types.now c.loop-left.left c.loop-left-test.false
